-- The growth of a count.
use Rattle.std.proofs.Common.{◌≡◌, ℕ, ◌≤◌, ◌+◌, ◌-◌, ◌^◌, sym, subst}
use Rattle.std.proofs.Math.Nat.{min-le_left}
use Rattle.in_syntax.specs.Streams.{one_more}

-- a count is at most one more
pub counted : (old new : ℕ) → new ≡ one_more old → new ≤ old + 1
counted old new e = subst (λ z. z ≤ old + 1) (sym e) (min-le_left (old + 1) (2 ^ 64 - 1))
