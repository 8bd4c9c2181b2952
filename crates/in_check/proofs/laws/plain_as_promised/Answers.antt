use Rattle.in_check.proofs.Reached.Plain.{promised}
use Rattle.in_check.proofs.laws.plain_as_promised.Goals as goal

pub returns : goal.returns
returns c = promised
