use Rattle.std.proofs.Common.{◌≡◌, ◌++◌, drop}
use Rattle.in_net.specs.Building.{cells_of}
use Rattle.in_net.specs.Built.{AgentsOf}
use Rattle.in_net.proofs.building.cells.Given as goal

abbrev pub invariant-loop-agent : goal.invariant-loop-agent
invariant-loop-agent l = record {
  cells : l.cells ++ cells_of l.symbols l.spots l.links (drop l.agent-index l.agents) ≡ cells_of l.symbols l.spots l.links l.agents;
  agents : AgentsOf l.symbols l.spots (drop l.agent-index l.agents);
}
