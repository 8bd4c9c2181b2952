use Rattle.std.proofs.Common.{arith}
use Rattle.in_arena.specs.Arenas.{state_at}
use Rattle.in_cells.specs.Copying.{LeadsInto}
use Rattle.in_tests.proofs.Ends.{one_more, so_all}
use Rattle.in_tests.proofs.copies.expect_inside.Goals as goal

pub loop-place-preserved : goal.loop-place-preserved
loop-place-preserved g c =
    one_more (state_at c.args.from.now c.args.agent.0) (LeadsInto c.args.agents.now c.args.many) c.loop-place.place c.port.result c.port.ensures c.expect_end.ensures c.loop-place.invariant

pub returns : goal.returns
returns g c = λ i e stands.
    so_all (state_at c.args.from.now c.args.agent.0) (LeadsInto c.args.agents.now c.args.many) c.loop-place.place (let t = c.loop-place-test.false in let m = c.places-place-end.ensures.places in omega (arith, t, m)) c.loop-place.invariant i e stands
