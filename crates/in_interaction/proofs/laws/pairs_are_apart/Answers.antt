use Rattle.in_interaction.proofs.Stepping.KeptOrMade.{apart}
use Rattle.in_interaction.proofs.laws.pairs_are_apart.Goals as goal

pub returns : goal.returns
returns c = apart
