use Rattle.in_gluing.proofs.BesideAlike.{beside_is_one}
use Rattle.in_gluing.proofs.laws.beside_is_one.Goals as goal

pub returns : goal.returns
returns c = beside_is_one
