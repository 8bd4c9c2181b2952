use Rattle.in_gluing.proofs.Standing.{taken_apart_exists}
use Rattle.in_gluing.proofs.laws.taken_apart_exists.Goals as goal

pub returns : goal.returns
returns c = taken_apart_exists
