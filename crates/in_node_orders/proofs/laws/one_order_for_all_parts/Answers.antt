use Rattle.in_node_orders.proofs.OneOrder.{for_all_parts}
use Rattle.in_node_orders.proofs.laws.one_order_for_all_parts.Goals as goal

pub returns : goal.returns
returns c = λ o net s rest ns h p met. for_all_parts o net s rest ns h p met
