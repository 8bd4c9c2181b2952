use Rattle.std.proofs.Common.{get_or}
use Rattle.in_net.specs.Building.{no_agent}
use Rattle.in_net.proofs.Wiring.Links.{all_rest}
use Rattle.in_net.proofs.WholeNets.Steps.{one_cell, cell_is}
use Rattle.in_net.proofs.building.cells.Goals as goal

pub loop-agent-preserved : goal.loop-agent-preserved
loop-agent-preserved c = record {
  cells =
      one_cell c.args.symbols.now c.args.spots.now c.args.links.now c.args.agents.now c.loop-agent.agent-index no_agent c.in_ok-cell.field-0 c.loop-agent.cells c.push.new.self _ c.loop-agent-test.true
      (cell_is c.args.symbols.now c.args.spots.now c.args.links.now (get_or c.args.agents.now c.loop-agent.agent-index no_agent) c.in_ok-cell.field-0 c.arity-arity.result c.arity-arity.ensures.arity c.in_ok-cell.ensures)
      c.in_ok-push.ensures.ok c.loop-agent.invariant.cells;
  agents = all_rest _ c.args.agents.now c.loop-agent.agent-index no_agent c.loop-agent-test.true c.loop-agent.invariant.agents;
}
