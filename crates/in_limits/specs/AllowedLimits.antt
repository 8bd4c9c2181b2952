-- The possible limits.
use Rattle.std.specs.Prelude.{◌≡◌, ◌≤◌, ℕ, Option, Some, None}
use Rattle.in_arena.specs.Classes.{each}
use Rattle.in_arena.specs.declared.content.CellCounts.{CellCounts}
use Rattle.in_limits.specs.declared.limits.Limits.{Limits}
use Rattle.in_limits.specs.Limiting.{AreAllowed, HasLeast, least_cells, most_cells, most_interactions, most_workers}

-- each number is in range
abbrev pub AreInRange : ℕ → ℕ → ℕ → Type 0
AreInRange workers limit cells = (1 ≤ workers) × (workers ≤ most_workers) × (limit ≤ most_interactions) × (least_cells ≤ cells) × (cells ≤ most_cells)

-- these limits, with that many cells of each class, if each number is in range, and none otherwise
abbrev pub AreLimits : ℕ → ℕ → ℕ → Option Limits → Type 0
AreLimits workers limit cells None = AreInRange workers limit cells → ⊥
AreLimits workers limit cells (Some l) = AreInRange workers limit cells × (l.workers ≡ workers) × (l.limit ≡ limit) × (l.cells ≡ each cells)

-- each number is in range, where the classes have cells of their own number
abbrev pub AreAllInRange : ℕ → ℕ → CellCounts → Type 0
AreAllInRange workers limit cells = (1 ≤ workers) × (workers ≤ most_workers) × (limit ≤ most_interactions) × HasLeast cells × AreAllowed cells

-- these limits if each number is in range, and none otherwise
abbrev pub AreLimitsOf : ℕ → ℕ → CellCounts → Option Limits → Type 0
AreLimitsOf workers limit cells None = AreAllInRange workers limit cells → ⊥
AreLimitsOf workers limit cells (Some l) = AreAllInRange workers limit cells × (l.workers ≡ workers) × (l.limit ≡ limit) × (l.cells ≡ cells)
