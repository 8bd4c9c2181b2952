use Rattle.std.proofs.Common.{◌≡◌, ◌<◌, ℕ}
use Rattle.in_simple.specs.Checking.{left_at}
use Rattle.in_simple.proofs.verifying.is_none_left.Given as goal

abbrev pub invariant-loop-part : goal.invariant-loop-part
invariant-loop-part l = (i : ℕ) → i < l.part-index → left_at l.parts.items i ≡ 0
