use Rattle.in_gluing.proofs.TakenApart.{taken_apart_has_joined_none}
use Rattle.in_gluing.proofs.laws.taken_apart_has_joined_none.Goals as goal

pub returns : goal.returns
returns c = taken_apart_has_joined_none
