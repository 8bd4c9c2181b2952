use Rattle.std.proofs.Common.{Ok, Err, subst}
use Rattle.in_certificates.specs.Verifying.{Verifies}
use Rattle.in_c.proofs.Told.{builds, fails, without_program}
use Rattle.in_c.proofs.verifying.verified.Goals as goal

pub returns-in-Ok-true : goal.returns-in-Ok-true
returns-in-Ok-true c = builds c.args.text_limits c.args.text.now c.args.number c.args.steps.now c.args.parts.now (subst (λ z. Verifies c.args.text_limits c.args.text.now c.args.number c.args.steps.now c.args.parts.now (Ok z)) c.in-Ok-true.field-0-test c.in-Ok-true.ensures)

pub returns-in-Ok-false : goal.returns-in-Ok-false
returns-in-Ok-false c = fails c.args.text_limits c.args.text.now c.args.number c.args.steps.now c.args.parts.now (subst (λ z. Verifies c.args.text_limits c.args.text.now c.args.number c.args.steps.now c.args.parts.now (Ok z)) c.in-Ok-false.field-0-test c.in-Ok-false.ensures)

pub returns-in-Err-Refused : goal.returns-in-Err-Refused
returns-in-Err-Refused c =
    without_program c.args.text_limits c.args.text.now c.args.number c.args.steps.now c.args.parts.now c.in-Err-Refused.field-0-0
    (subst (λ e. Verifies c.args.text_limits c.args.text.now c.args.number c.args.steps.now c.args.parts.now (Err e)) c.in-Err-Refused.field-0-is c.in-Err-Refused.ensures)
