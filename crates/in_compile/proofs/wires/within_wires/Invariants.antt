use Rattle.std.proofs.Common.{◌≡◌, ◌++◌, drop}
use Rattle.std.specs.List.{enumerate_from, filter, flat_map}
use Rattle.in_compile.specs.Wires.{is_from_first, wires_at, within_of}
use Rattle.in_compile.proofs.wires.within_wires.Given as goal

abbrev pub invariant-loop-agent : goal.invariant-loop-agent
invariant-loop-agent l = l.wires ++ filter is_from_first (flat_map wires_at (enumerate_from l.agent (drop l.agent l.member.agents))) ≡ within_of l.member
