-- Walks along edges.
use Rattle.std.specs.Prelude.{◌≡◌, ◌≢◌, ◌⊎◌, ℕ, List, slice_get, Some}

-- one or more edges, or none, lead from one vertex to another
pub data EdgeWalk (V : Type 0) (E : V → V → Type 0) : V → V → Type 0 where
  done : (v : V) → EdgeWalk V E v v
  along : (u v w : V) → E u v → EdgeWalk V E v w → EdgeWalk V E u w

module _ (edges : List (ℕ × ℕ)) where
  -- the edge of that number has these ends
  abbrev pub HasTwoEnds : (number one other : ℕ) → Type 0
  HasTwoEnds k a b = (slice_get edges k ≡ Some (a, b)) ⊎ (slice_get edges k ≡ Some (b, a))

  -- another edge than this one has these ends
  abbrev pub Other : (without one other : ℕ) → Type 0
  Other e a b = (k : ℕ) × (k ≢ e) × HasTwoEnds k a b

  -- its ends are joined by a walk without it
  abbrev pub IsOnCycle : (number : ℕ) → Type 0
  IsOnCycle e = (a : ℕ) × (b : ℕ) × (slice_get edges e ≡ Some (a, b)) × EdgeWalk ℕ (Other e) a b
