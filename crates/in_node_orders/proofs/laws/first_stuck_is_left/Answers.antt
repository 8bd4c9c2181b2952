use Rattle.in_node_orders.proofs.OneOrder.{stuck_left}
use Rattle.in_node_orders.proofs.laws.first_stuck_is_left.Goals as goal

pub returns : goal.returns
returns c = λ o net s rest t ns h k. stuck_left o net s rest t ns h k
