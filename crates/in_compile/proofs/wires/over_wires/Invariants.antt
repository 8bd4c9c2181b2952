use Rattle.std.proofs.Common.{◌≡◌, ◌++◌, drop}
use Rattle.std.specs.List.{enumerate_from, filter}
use Rattle.in_compile.specs.Wires.{is_from_lowest, over_of}
use Rattle.in_compile.proofs.wires.over_wires.Given as goal

abbrev pub invariant-loop-number : goal.invariant-loop-number
invariant-loop-number l = l.wires ++ filter is_from_lowest (enumerate_from l.number (drop l.number l.member.joints)) ≡ over_of l.member
