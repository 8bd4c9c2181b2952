use Rattle.in_net.proofs.AtPairs.PairOfWire.{one_on_wire}
use Rattle.in_net.proofs.laws.wires_join_one_pair.Goals as goal

pub returns : goal.returns
returns c = one_on_wire
