use Rattle.in_interaction.proofs.Stepping.OneOutcome.{one_outcome}
use Rattle.in_interaction.proofs.laws.interactions_are_one.Goals as goal

pub returns : goal.returns
returns c = one_outcome
