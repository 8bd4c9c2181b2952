use Rattle.in_certificates.proofs.OneAnswer.{steps_are_judged_once}
use Rattle.in_certificates.proofs.laws.steps_are_judged_once.Goals as goal

pub returns : goal.returns
returns c = steps_are_judged_once
