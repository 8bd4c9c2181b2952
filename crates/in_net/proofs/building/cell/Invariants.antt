use Rattle.std.proofs.Common.{◌≡◌, ◌++◌, ◌+◌, ◌-◌}
use Rattle.in_net.specs.Building.{ends_from}
use Rattle.in_net.proofs.building.cell.Given as goal

abbrev pub invariant-loop-port : goal.invariant-loop-port
invariant-loop-port l = l.ends ++ ends_from l.spots l.links (l.agent.first + l.port) (l.arity + 1 - l.port) ≡ ends_from l.spots l.links l.agent.first (l.arity + 1)
