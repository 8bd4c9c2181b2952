use Rattle.in_node_orders.specs.Orders.{all_nodes}
use Rattle.in_simple_deriving.proofs.Listing.{ListsBelow}
use Rattle.in_simple_deriving.proofs.heads.all_of.Given as goal

abbrev pub invariant-loop-node : goal.invariant-loop-node
invariant-loop-node l = ListsBelow (all_nodes l.order.net) l.node l.nodes
