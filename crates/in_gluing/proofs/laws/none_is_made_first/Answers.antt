use Rattle.in_gluing.proofs.MadeByJoining.{none_is_made_first}
use Rattle.in_gluing.proofs.laws.none_is_made_first.Goals as goal

pub returns : goal.returns
returns c = none_is_made_first
