use Rattle.in_program.specs.Acting.{ran, full}
use Rattle.in_program.proofs.Told.{told_as}
use Rattle.in_program.proofs.in_turn.tell_run_in_turn.Goals as goal

pub returns-in-Ok : goal.returns-in-Ok
returns-in-Ok g c =
    let o = c.in-Ok.outcome in
    told_as _ _ _ _ _ (λ lines s h. (ran o.machine o.interactions o.stop, c.in-Ok.ensures.runs, h.0, h.1)) c.tell_outcome-status.ensures

pub returns-in-Err : goal.returns-in-Err
returns-in-Err g c =
    told_as _ _ _ _ _ (λ lines s (class, need, free, is, these). (full class need free, rw is at c.in-Err.ensures.runs.0, these.0, these.1)) c.tell_no_start.ensures
