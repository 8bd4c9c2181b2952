use Rattle.in_rounds.proofs.OneAnswer.{returns_are_one}
use Rattle.in_rounds.proofs.laws.returns_are_one.Goals as goal

pub returns : goal.returns
returns c = returns_are_one
