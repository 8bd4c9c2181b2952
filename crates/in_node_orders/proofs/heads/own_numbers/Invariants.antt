use Rattle.std.proofs.Common.{◌≡◌, ◌<◌, ℕ, length}
use Rattle.in_simple_bridges.specs.Spans.{at}
use Rattle.in_node_orders.proofs.heads.own_numbers.Given as goal

abbrev pub invariant-loop-number : goal.invariant-loop-number
invariant-loop-number l = record {
  size : length l.items ≡ l.number;
  all : (n : ℕ) → n < l.number → at l.items n ≡ n;
}
