use Rattle.std.proofs.Common.{◌≡◌, ◌++◌, ◌-◌, length}
use Rattle.in_net.specs.Building.{wires_from}
use Rattle.in_net.proofs.building.wires.Given as goal

abbrev pub invariant-loop-at : goal.invariant-loop-at
invariant-loop-at l = l.wires.items ++ wires_from l.spots l.links l.at (length l.spots - l.at) ≡ wires_from l.spots l.links 0 (length l.spots)
