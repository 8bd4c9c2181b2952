use Rattle.in_node_orders.proofs.OneOrder.{one_order}
use Rattle.in_node_orders.proofs.laws.node_orders_are_one.Goals as goal

pub returns : goal.returns
returns c = λ o net s r t ns ms h k. one_order o net s r t ns ms h k
