use Rattle.std.proofs.Common.{◌≡◌, ◌+◌, length}
use Rattle.in_node_orders.specs.Left.{HasSplitting, left_nodes}
use Rattle.in_node_orders.specs.Turns.{left_at}
use Rattle.in_node_orders.proofs.orders.Left.is_before.Given as goal

abbrev pub invariant-loop-self : goal.invariant-loop-self
invariant-loop-self l = record {
  arrivals : l.self.arrivals ≡ l.fn.self.arrivals;
  growing : l.self.growing ≡ l.fn.self.growing;
  turn : l.self.turn ≡ l.fn.self.turn;
  free : HasSplitting l.wired (left_nodes l.wired l.fn.self) (left_at l.wired l.fn.self.arrivals.node_turns (l.fn.self.turn + 1)) l.self.free;
}

abbrev pub decreases-loop-self : goal.decreases-loop-self
decreases-loop-self l = length l.self.free
