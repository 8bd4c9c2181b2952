-- Open ends, wire by wire.
use Rattle.std.proofs.Common.{◌≡◌, ◌<◌, ◌+◌, ℕ, List, length}
use Rattle.in_simple.specs.Checking.{ends_at, StayFrom}

-- the ends are added below k, and unchanged from there on
pub record IsAddedTo (more old new : List (ℕ × ℕ)) (k : ℕ) : Type 0 where
  pub size : length new ≡ length old
  pub below : (w : ℕ) → w < k → ((ends_at new w).0 ≡ (ends_at more w).0 + (ends_at old w).0) × ((ends_at new w).1 ≡ (ends_at more w).1 + (ends_at old w).1)
  pub above : StayFrom k old new
