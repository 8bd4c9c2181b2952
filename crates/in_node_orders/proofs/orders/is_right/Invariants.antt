use Rattle.in_node_orders.specs.Left.{IsTested}
use Rattle.in_node_orders.proofs.orders.is_right.Given as goal

abbrev pub invariant-loop-left : goal.invariant-loop-left
invariant-loop-left l = IsTested l.wired l.nodes l.left

abbrev pub decreases-loop-left : goal.decreases-loop-left
decreases-loop-left l = l.left.turn
