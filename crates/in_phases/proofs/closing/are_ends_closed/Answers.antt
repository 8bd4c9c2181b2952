use Rattle.std.proofs.Common.{◌+◌, ◌*◌}
use Rattle.in_arena.specs.declared.content.End.TheVariants as end
use Rattle.in_cells.specs.Shown.{point_of}
use Rattle.in_phases.proofs.Places.{leads_somewhere, partner_shown}
use Rattle.in_phases.proofs.closing.are_ends_closed.Goals as goal

pub is_inside-requires-clause-there : goal.is_inside-requires-clause-there
is_inside-requires-clause-there c =
    let m = c.args.reducer.now in
    let e = end.Free (c.args.own + 2 * c.loop-cut.cut) in
    leads_somewhere m c.pairs.ensures.reducer (point_of e) c.partner-end.result (partner_shown m e c.partner-end.result c.partner-end.ensures)
