use Rattle.std.proofs.Common.{◌≡◌, ◌++◌, ◌-◌, length}
use Rattle.in_export.specs.Parts.{active_from, active_wires}
use Rattle.in_export.proofs.nets.active_wires.Given as goal

abbrev pub invariant-loop-number : goal.invariant-loop-number
invariant-loop-number l = l.active.items ++ active_from l.net l.number (length l.net.wires - l.number) ≡ active_wires l.net
