use Rattle.in_command_line.specs.declared.action.Action.TheVariants.{Run}
use Rattle.in_program.specs.Acting.{accepted, refused}
use Rattle.in_program.proofs.AnyOrder.{replied}
use Rattle.in_program.proofs.Told.{told_as}
use Rattle.in_program.proofs.in_turn.run_text.Goals as goal

pub returns-in-Ok : goal.returns-in-Ok
returns-in-Ok g c = told_as _ _ _ _ _ (λ lines s h. replied c.args.text_limits (Run c.args.limits) c.args.text.now lines s (accepted c.in-Ok.checked h.0) (c.in-Ok.ensures.checked, h.1) h.2 h.3) c.tell_run_in_turn-status.ensures

pub returns-in-Err : goal.returns-in-Err
returns-in-Err g c =
    told_as _ _ _ _ _ (λ lines s (r, is, these). replied c.args.text_limits (Run c.args.limits) c.args.text.now lines s (refused r) (rw is at c.in-Err.ensures.checked) these.0 these.1) c.tell_fault.ensures
