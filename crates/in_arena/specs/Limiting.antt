-- The most cells of an arena. This project's own choice.
use Rattle.std.specs.Prelude.{◌≤◌, ℕ}
use Rattle.in_arena.specs.declared.content.CellCounts.{CellCounts}

-- the most small cells; together with the most of the others there are as many as numbers in words
abbrev pub most_small_cells : ℕ
most_small_cells = 16777216

-- the most large cells, and the most wide ones
abbrev pub most_larger_cells : ℕ
most_larger_cells = 8388608

-- an arena may have that many cells
pub record AreAllowed (cells : CellCounts) : Type 0 where
  pub small : cells.small_cells ≤ most_small_cells
  pub large : cells.large_cells ≤ most_larger_cells
  pub wide : cells.wide_cells ≤ most_larger_cells

-- the most cells of each class where there are as many of each
abbrev pub most_cells : ℕ
most_cells = 1048576
