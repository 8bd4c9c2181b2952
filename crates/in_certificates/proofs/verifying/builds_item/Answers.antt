use Rattle.in_certificates.specs.Given.{steps_of}
use Rattle.in_certificates.proofs.Built.{by_item}
use Rattle.in_certificates.proofs.verifying.builds_item.Goals as goal

pub returns-in-Some : goal.returns-in-Some
returns-in-Some c = by_item c.args.checked.now c.args.number _ c.shape.result.now (steps_of c.args.parts.now c.args.given.now) c.are_steps_of.result c.in-Some.ensures c.shape.ensures c.are_steps_of.ensures
