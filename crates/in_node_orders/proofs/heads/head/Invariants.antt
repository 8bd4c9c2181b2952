use Rattle.std.proofs.Common.{◌≡◌, ◌<◌, ◌≤◌, ℕ, Bool, true, length}
use Rattle.in_growing_graphs.specs.Blobs.{GoesUp}
use Rattle.in_node_orders.specs.Heads.{AreFalling, AreSkips}
use Rattle.in_node_orders.proofs.heads.head.Given as goal

abbrev pub invariant-loop-number : goal.invariant-loop-number
invariant-loop-number l = record {
  size : length l.skips ≡ length l.fn.skips;
  falling : AreFalling l.skips;
  lower : l.number ≤ l.from;
  small : l.number < length l.skips;
  goes : (up : ℕ → ℕ) (covered : ℕ → Bool) → AreSkips up covered l.fn.skips → AreSkips up covered l.skips × GoesUp up (λ z. covered z ≡ true) l.from l.number;
}

abbrev pub decreases-loop-number : goal.decreases-loop-number
decreases-loop-number l = l.number
