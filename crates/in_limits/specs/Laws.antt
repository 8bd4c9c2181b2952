-- The laws on limits.
use Rattle.std.specs.Prelude.{◌≡◌, ℕ, Option}
use Rattle.in_arena.specs.declared.content.CellCounts.{CellCounts}
use Rattle.in_limits.specs.AllowedLimits.{AreLimits, AreLimitsOf}
use Rattle.in_limits.specs.declared.limits.Limits.{Limits}

-- three numbers make the same limits each time, or none each time
abbrev pub LimitsAreOne : Type 0
LimitsAreOne = (workers limit cells : ℕ) (l k : Option Limits) → AreLimits workers limit cells l → AreLimits workers limit cells k → l ≡ k

-- .. and so do numbers with cells of each class
abbrev pub LimitsOfCellsAreOne : Type 0
LimitsOfCellsAreOne = (workers limit : ℕ) (cells : CellCounts) (l k : Option Limits) → AreLimitsOf workers limit cells l → AreLimitsOf workers limit cells k → l ≡ k
