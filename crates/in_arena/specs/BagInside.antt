-- The view of a bag, and the invariant of its fields.
use Rattle.std.specs.Prelude.{◌≡◌, ◌≤◌, ◌<◌, ℕ, Some, None}
use Rattle.in_arena.specs.Arenas.{ArenaView}
use Rattle.in_arena.specs.ByClass.{view_of}
use Rattle.in_arena.specs.Classes.{amount, width}
use Rattle.in_arena.specs.Limiting.{AreAllowed}
use Rattle.in_arena.specs.Words.{AreWhole, CellWords, cell_in}
use Rattle.in_arena.specs.declared.bag.Bag.TheInside.{Inside}
use Rattle.in_arena.specs.declared.content.CellClass.{CellClass}

abbrev pub bag_view : Inside → ArenaView
bag_view b = view_of b.words.at b.cells b.words.slots

-- a cell is another owner's, or here with a content of at most so many ends
abbrev pub IsKeptCell : ℕ → CellWords → Type 0
IsKeptCell most None = Unit {0}
IsKeptCell most (Some None) = ⊥
IsKeptCell most (Some (Some c)) = c.count ≤ most

pub record IsBag (b : Inside) : Type 0 where
  pub few : AreAllowed b.cells
  pub block : b.words.at ≡ b.base.ptr
  pub whole : AreWhole b.cells b.words.slots
  pub kept : (c : CellClass) (i : ℕ) → i < amount b.cells c → IsKeptCell (width c) (cell_in b.cells b.words.slots c i)
