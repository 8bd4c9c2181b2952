use Rattle.std.proofs.Common.{◌∙◌}
use Rattle.in_compile.proofs.Placements.AgentByAgent.{some_left, one_more_taken}
use Rattle.in_compile.proofs.placing.take_cells.Goals as goal

pub take-cell-requires-clause-some : goal.take-cell-requires-clause-some
take-cell-requires-clause-some c =
    some_left c.args.member.now c.args.stock.now c.args.bag.now c.loop-agent.agent c.loop-agent.stock c.loop-agent.numbers.items c.loop-agent.bag c.loop-agent.invariant.taken c.class.result c.class.ensures c.is_sound.ensures c.requires.holds

pub loop-agent-preserved : goal.loop-agent-preserved
loop-agent-preserved c = record {
  taken = one_more_taken c.args.member.now c.args.stock.now c.args.bag.now c.loop-agent.agent c.loop-agent.stock c.loop-agent.numbers.items c.loop-agent.bag c.loop-agent.invariant.taken c.class.result c.class.ensures
      c.take-cell.result c.take-cell.new.self c.take-cell.new.bag c.take-cell.ensures c.push_reserved.new.self.items c.push_reserved.ensures.items;
  room = c.push_reserved.ensures.capacity ∙ c.loop-agent.invariant.room;
}
