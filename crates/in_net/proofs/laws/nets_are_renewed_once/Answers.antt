use Rattle.in_net.proofs.WholeNets.Rejoined.{renewed_once}
use Rattle.in_net.proofs.laws.nets_are_renewed_once.Goals as goal

pub returns : goal.returns
returns c = renewed_once
