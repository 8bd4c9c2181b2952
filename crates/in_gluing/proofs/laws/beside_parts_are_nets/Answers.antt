use Rattle.in_gluing.proofs.BesideNets.{beside_parts_are_nets}
use Rattle.in_gluing.proofs.laws.beside_parts_are_nets.Goals as goal

pub returns : goal.returns
returns c = beside_parts_are_nets
