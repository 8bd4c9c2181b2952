use Rattle.std.proofs.Common.{◌+◌, subst}
use Rattle.in_arena.specs.declared.content.End.TheVariants.{Cell}
use Rattle.in_cells.specs.Shown.{point_of}
use Rattle.in_phases.specs.Branches.{LeadsSomewhere}
use Rattle.in_phases.proofs.Places.{leads_somewhere, partner_shown}
use Rattle.in_phases.proofs.branch.Branch.take_behind.Goals as goal

pub take_in-requires-clause-there : goal.take_in-requires-clause-there
take_in-requires-clause-there c =
    let m = c.args.reducer.now in
    subst (LeadsSomewhere m) c.in-Cell-default-eq0.is
    (leads_somewhere m c.pairs.ensures.reducer (point_of (Cell c.args.cell (c.loop-port.port + 1))) c.partner.result
    (partner_shown m (Cell c.args.cell (c.loop-port.port + 1)) c.partner.result c.partner.ensures))
