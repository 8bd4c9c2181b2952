use Rattle.in_net.proofs.WholeNets.OneNet.{one_net}
use Rattle.in_net.proofs.laws.text_nets_are_one.Goals as goal

pub returns : goal.returns
returns c = λ t text n m h k. one_net t text n m h k
