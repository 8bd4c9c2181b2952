use Rattle.in_interaction.proofs.Stepping.KeptOrMade.{kept_or_made}
use Rattle.in_interaction.proofs.laws.pairs_are_kept_or_made.Goals as goal

pub returns : goal.returns
returns c = kept_or_made
