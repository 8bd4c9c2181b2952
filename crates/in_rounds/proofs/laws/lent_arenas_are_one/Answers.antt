use Rattle.in_rounds.proofs.OneAnswer.{lent_once}
use Rattle.in_rounds.proofs.laws.lent_arenas_are_one.Goals as goal

pub returns : goal.returns
returns c = lent_once
