use Rattle.in_interaction.proofs.Queues.OneMade.{one_made_list}
use Rattle.in_interaction.proofs.laws.made_pairs_are_listed_once.Goals as goal

pub returns : goal.returns
returns c = one_made_list
