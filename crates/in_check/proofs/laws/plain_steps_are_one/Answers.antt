use Rattle.in_check.proofs.Reached.Plain.{steps_once}
use Rattle.in_check.proofs.laws.plain_steps_are_one.Goals as goal

pub returns : goal.returns
returns c = steps_once
