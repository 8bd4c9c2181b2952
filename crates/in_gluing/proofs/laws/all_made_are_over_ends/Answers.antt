use Rattle.in_gluing.proofs.MadeByJoining.{all_made_are_over_ends}
use Rattle.in_gluing.proofs.laws.all_made_are_over_ends.Goals as goal

pub returns : goal.returns
returns c = all_made_are_over_ends
