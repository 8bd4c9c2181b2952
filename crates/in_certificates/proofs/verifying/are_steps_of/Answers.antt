use Rattle.std.proofs.Common.{sym, ◌∙◌}
use Rattle.in_certificates.specs.Given.{steps_of}
use Rattle.in_certificates.proofs.Built.{by_steps}
use Rattle.in_certificates.proofs.verifying.are_steps_of.Goals as goal

pub returns-in-Some : goal.returns-in-Some
returns-in-Some c = by_steps c.args.open.now _ (steps_of c.args.parts.now c.args.given.now) c.verify.result (sym c.in-Some.is ∙ c.in_ok-steps.ensures) c.verify.ensures
