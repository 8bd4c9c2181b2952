use Rattle.in_overwriting.proofs.Overwriting.Flagged.{unmarked_pairs_are_apart}
use Rattle.in_overwriting.proofs.laws.unmarked_pairs_are_apart.Goals as goal

pub returns : goal.returns
returns c = unmarked_pairs_are_apart
