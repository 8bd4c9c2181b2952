-- The limits of a run. This project's own choice.
use Rattle.std.specs.Prelude.{◌≤◌, ℕ}
use Rattle.in_arena.specs.declared.content.CellCounts.{CellCounts}
pub use Rattle.in_arena.specs.Limiting.{AreAllowed, most_cells}

abbrev pub most_workers : ℕ
most_workers = 64

abbrev pub most_interactions : ℕ
most_interactions = 1000000000000

abbrev pub least_cells : ℕ
least_cells = 16

-- each class has at least this number of cells
abbrev pub HasLeast : CellCounts → Type 0
HasLeast cells = (least_cells ≤ cells.small_cells) × (least_cells ≤ cells.large_cells) × (least_cells ≤ cells.wide_cells)
