use Rattle.std.proofs.Common.{Err, inl, inr, refl, subst}
use Rattle.in_check.specs.Checking.{IsChecked}
use Rattle.in_c.proofs.choosing.run_text_by.Goals as goal

pub returns-in-Ok : goal.returns-in-Ok
returns-in-Ok c = inl (c.in-Ok.checked.program, (c.in-Ok.checked, refl, c.in-Ok.ensures.checked), c.run_by-shown.ensures)

pub returns-in-Err-Refused : goal.returns-in-Err-Refused
returns-in-Err-Refused c = inr (inl (c.in-Err-Refused.field-0-0, subst (λ e. IsChecked c.args.text_limits c.args.text.now (Err e)) c.in-Err-Refused.field-0-is c.in-Err-Refused.ensures.checked, c.nothing.ensures))
