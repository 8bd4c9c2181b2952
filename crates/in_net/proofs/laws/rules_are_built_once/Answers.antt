use Rattle.in_net.proofs.WholeNets.OneText.{rules_once}
use Rattle.in_net.proofs.laws.rules_are_built_once.Goals as goal

pub returns : goal.returns
returns c = rules_once
