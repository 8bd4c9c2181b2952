use Rattle.std.proofs.Common.{◌≡◌, ◌<◌, ◌≤◌, ◌-◌, ℕ, length}
use Rattle.in_simple_bridges.specs.Spans.{at}
use Rattle.in_node_orders.specs.Growing.{IsGrowing}
use Rattle.in_node_orders.proofs.growing.Growing.come_by.Given as goal

abbrev pub invariant-loop-self : goal.invariant-loop-self
invariant-loop-self l = record {
  edges : l.self.edges ≡ l.fn.self.edges;
  growing : IsGrowing l.self;
  later : (e : ℕ) → e < l.self.come → l.turn ≤ at l.turns e;
}

abbrev pub decreases-loop-self : goal.decreases-loop-self
decreases-loop-self l = length l.turns - l.self.come
