use Rattle.in_net.proofs.WholeNets.OneNet.{is_net}
use Rattle.in_net.proofs.laws.whole_parts_are_nets.Goals as goal

pub returns : goal.returns
returns c = λ t n whole over. is_net t n whole over
