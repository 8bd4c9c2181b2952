use Rattle.in_check.proofs.OneAnswer.{checked_once}
use Rattle.in_check.proofs.laws.texts_are_checked_once.Goals as goal

pub returns : goal.returns
returns c = checked_once
