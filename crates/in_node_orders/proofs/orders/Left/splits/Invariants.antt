use Rattle.std.proofs.Common.{◌<◌, ℕ, take}
use Rattle.in_simple_bridges.specs.Walks.{IsOnCycle}
use Rattle.in_node_orders.specs.Arrivals.{hub_place}
use Rattle.in_node_orders.proofs.orders.Left.splits.Given as goal

abbrev pub invariant-loop-class : goal.invariant-loop-class
invariant-loop-class l = (c : ℕ) → c < l.class → IsOnCycle (take l.self.growing.come l.self.growing.edges) (hub_place l.self.arrivals l.node c) → ⊥
