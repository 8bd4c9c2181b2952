use Rattle.in_check.proofs.Reached.Plain.{steps}
use Rattle.in_check.proofs.laws.plain_steps.Goals as goal

pub returns : goal.returns
returns c = steps
