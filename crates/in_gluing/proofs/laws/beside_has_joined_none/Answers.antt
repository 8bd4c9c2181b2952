use Rattle.in_gluing.proofs.EndByEnd.{beside_has_joined_none}
use Rattle.in_gluing.proofs.laws.beside_has_joined_none.Goals as goal

pub returns : goal.returns
returns c = beside_has_joined_none
