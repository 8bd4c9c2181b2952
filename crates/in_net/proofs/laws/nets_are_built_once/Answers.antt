use Rattle.in_net.proofs.WholeNets.OneText.{nets_once}
use Rattle.in_net.proofs.laws.nets_are_built_once.Goals as goal

pub returns : goal.returns
returns c = nets_once
