use Rattle.std.proofs.Common.{◌≡◌, ℕ, length}
use Rattle.in_simple.specs.Checking.{ends_at}
use Rattle.in_simple.proofs.verifying.no_ends.Given as goal

abbrev pub invariant-loop-wire : goal.invariant-loop-wire
invariant-loop-wire l = record {
  count : length l.ends ≡ l.wire;
  none : (w : ℕ) → ends_at l.ends w ≡ (0, 0);
}
