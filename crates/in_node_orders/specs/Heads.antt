-- The covered edges of a forest, and skips along them. This project's own.
use Rattle.std.specs.Prelude.{◌≡◌, ℕ, ◌<◌, ◌≤◌, Bool, true, false, List, length}
use Rattle.in_simple_bridges.specs.Spans.{at}
use Rattle.in_growing_graphs.specs.Blobs.{GoesUp, HasHead}

-- each number leads to a lower one, or to itself
abbrev pub AreFalling : List ℕ → Type 0
AreFalling ns = (x : ℕ) → at ns x ≤ x

-- the skip of a covered vertex is further up, the way there being covered; any other vertex is its own
pub record AreSkips (up : ℕ → ℕ) (covered : ℕ → Bool) (skips : List ℕ) : Type 0 where
  pub bare : (x : ℕ) → x < length skips → covered x ≡ false → at skips x ≡ x
  pub lower : (x : ℕ) → x < length skips → covered x ≡ true → at skips x < x
  pub goes : (x : ℕ) → x < length skips → GoesUp up (λ z. covered z ≡ true) x (at skips x)

-- they stay skips, and y is the head of the blob of x
abbrev pub LeadsToHead : List ℕ → List ℕ → ℕ → ℕ → Type 0
LeadsToHead old new x y = (up : ℕ → ℕ) (covered : ℕ → Bool) → AreSkips up covered old → AreSkips up covered new × HasHead up covered x y
