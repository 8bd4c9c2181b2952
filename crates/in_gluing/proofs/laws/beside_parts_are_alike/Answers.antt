use Rattle.in_gluing.proofs.BesideAlike.{beside_parts_are_alike}
use Rattle.in_gluing.proofs.laws.beside_parts_are_alike.Goals as goal

pub returns : goal.returns
returns c = beside_parts_are_alike
