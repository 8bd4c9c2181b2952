use Rattle.std.proofs.Common.{sym, subst}
use Rattle.in_reducer.specs.Machines.{MachineParts}
use Rattle.in_reducer.specs.PartingLaws.{IsCutTimes, uncut, then_cut}
use Rattle.in_phases.proofs.cutting.cut_place.Goals as goal

pub returns-then-not-leads_out-clause-cuts : goal.returns-then-not-leads_out-clause-cuts
returns-then-not-leads_out-clause-cuts c = uncut c.args.reducer.now

pub returns-in-Ok-clause-cuts : goal.returns-in-Ok-clause-cuts
returns-in-Ok-clause-cuts c =
    let m = c.args.reducer.now in
    then_cut 0 m m c.cut.new.self c.args.cell.0 c.args.place (uncut m) c.pairs.ensures.reducer c.in-Ok.ensures.cut

pub returns-in-Err-clause-cuts : goal.returns-in-Err-clause-cuts
returns-in-Err-clause-cuts c = subst (λ (z : MachineParts). IsCutTimes c.args.reducer.now 0 z) (sym c.in-Err.ensures.refused) (uncut c.args.reducer.now)
