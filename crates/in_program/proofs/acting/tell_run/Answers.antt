use Rattle.in_program.proofs.FoundRuns.{found_full, found_run}
use Rattle.in_program.proofs.Told.{told_as}
use Rattle.in_program.proofs.acting.tell_run.Goals as goal

pub returns-in-Ok : goal.returns-in-Ok
returns-in-Ok g c =
    let o = c.in-Ok.outcome in
    told_as _ _ _ _ _ (λ lines s h. found_run c.args.net c.args.limits c.args.checked.now o.machine o.interactions o.stop lines s c.in-Ok.ensures.runs h) c.tell_end-status.ensures

pub returns-in-Err : goal.returns-in-Err
returns-in-Err g c =
    let e = c.in-Err in
    told_as _ _ _ _ _ (λ lines s (class, need, free, is, these). found_full c.args.net c.args.limits c.args.checked.now class need free lines s (rw is at e.ensures.runs.0) these) c.tell_run_fault-status.ensures
