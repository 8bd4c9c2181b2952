use Rattle.std.proofs.Common.{◌≡◌, ◌++◌, drop, map}
use Rattle.in_net.proofs.building.places.Given as goal

abbrev pub invariant-loop-agent : goal.invariant-loop-agent
invariant-loop-agent l = l.places ++ map (λ a. a.place) (drop l.agent-index l.agents) ≡ map (λ a. a.place) l.agents
