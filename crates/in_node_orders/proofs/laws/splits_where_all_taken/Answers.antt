use Rattle.in_node_orders.proofs.OneOrder.{splits_taken}
use Rattle.in_node_orders.proofs.laws.splits_where_all_taken.Goals as goal

pub returns : goal.returns
returns c = λ o net s rest ns nodes h. splits_taken o net s rest ns nodes h
