use Rattle.std.proofs.Common.{List, length, subst, vec_capacity}
use Rattle.in_arena.specs.declared.content.CellNo.{CellNo}
use Rattle.in_compile.specs.PlacingSteps.{AreWrittenBelow}
use Rattle.in_compile.proofs.Placements.AgentByAgent.{placed}
use Rattle.in_compile.proofs.placing.place_into.Goals as goal

pub returns-clause-placed : goal.returns-clause-placed
returns-clause-placed c =
    let m = c.args.member.now in
    placed m c.args.stock.now c.placed.inside.bag c.take_cells.new.bag c.take_cells.new.stock c.take_cells.new.numbers.items c.write_agents.new.bag (vec_capacity c.take_cells.new.numbers) c.take_cells.ensures.taken
    (subst (λ (ns : List CellNo). AreWrittenBelow m ns c.take_cells.new.bag (length m.agents) c.write_agents.new.bag) c.as_slice.ensures.value c.write_agents.ensures)
