use Rattle.std.proofs.Common.{arith}
use Rattle.in_arena.specs.declared.content.End.TheVariants as end
use Rattle.in_cells.specs.Shown.{point_of}
use Rattle.in_phases.proofs.Places.{leads_somewhere, partner_shown, place_below}
use Rattle.in_phases.proofs.closing.is_agent_closed.Goals as goal

pub is_inside-requires-clause-there : goal.is_inside-requires-clause-there
is_inside-requires-clause-there c =
    let m = c.args.reducer.now in
    let e = end.Cell c.args.cell c.loop-place.place in
    leads_somewhere m c.pairs-place-end.ensures.reducer (point_of e) c.partner-end.result (partner_shown m e c.partner-end.result c.partner-end.ensures)

pub returns : goal.returns
returns c = λ done i q wire.
    (
    let low = place_below c.args.reducer.now c.pairs-place-end.ensures.reducer c.args.cell.0 i c.arity.result q c.arity.ensures wire in
    let all = c.loop-place-test.false in
    let from = c.from-place-end.ensures in
    c.loop-place.invariant i q (omega (arith, low, all, from)) wire
    )
