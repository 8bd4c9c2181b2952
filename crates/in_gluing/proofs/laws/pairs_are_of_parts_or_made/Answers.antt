use Rattle.in_gluing.proofs.PairsMade.{pairs_are_of_parts_or_made}
use Rattle.in_gluing.proofs.laws.pairs_are_of_parts_or_made.Goals as goal

pub returns : goal.returns
returns c = pairs_are_of_parts_or_made
