use Rattle.in_rounds.proofs.OneAnswer.{takes_are_one}
use Rattle.in_rounds.proofs.laws.takes_are_one.Goals as goal

pub returns : goal.returns
returns c = takes_are_one
