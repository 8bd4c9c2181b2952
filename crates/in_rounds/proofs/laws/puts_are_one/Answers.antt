use Rattle.in_rounds.proofs.OneAnswer.{puts_are_one}
use Rattle.in_rounds.proofs.laws.puts_are_one.Goals as goal

pub returns : goal.returns
returns c = puts_are_one
