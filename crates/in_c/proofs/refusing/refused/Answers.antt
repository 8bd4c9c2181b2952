use Rattle.std.proofs.Common.{Err, subst}
use Rattle.in_check.specs.Checking.{IsChecked}
use Rattle.in_c.proofs.Told.{not_refused, refused_as}
use Rattle.in_c.proofs.refusing.refused.Goals as goal

pub returns-in-Ok : goal.returns-in-Ok
returns-in-Ok c = not_refused c.args.text_limits c.args.text.now c.in-Ok._program c.no_numbers.result c.in-Ok.ensures.checked c.no_numbers.ensures

pub returns-in-Err-Refused : goal.returns-in-Err-Refused
returns-in-Err-Refused c = refused_as c.args.text_limits c.args.text.now c.in-Err-Refused.refusal c.numbers_of.result (subst (λ e. IsChecked c.args.text_limits c.args.text.now (Err e)) c.in-Err-Refused.field-0-is c.in-Err-Refused.ensures.checked) c.numbers_of.ensures
