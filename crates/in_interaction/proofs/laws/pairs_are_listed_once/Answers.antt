use Rattle.in_interaction.proofs.Stepping.OneOutcome.{one_list}
use Rattle.in_interaction.proofs.laws.pairs_are_listed_once.Goals as goal

pub returns : goal.returns
returns c = one_list
