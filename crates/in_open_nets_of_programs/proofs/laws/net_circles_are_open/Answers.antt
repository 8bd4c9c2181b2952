use Rattle.in_open_nets_of_programs.proofs.OfNets.{net_circle}
use Rattle.in_open_nets_of_programs.proofs.laws.net_circles_are_open.Goals as goal

pub returns : goal.returns
returns c = λ t n o numbered whole over opens circle. net_circle t n o numbered whole over opens circle
