-- Where the parts of an arena's row begin.
use Rattle.std.specs.Prelude.{◌≡◌, get_or}
use Rattle.in_arena.specs.Classes.{amount, class_no, first_of}
use Rattle.in_arena.specs.Words.{far_start, middle_start}
use Rattle.in_arena.specs.declared.content.CellClass.{CellClass}
use Rattle.in_arena.specs.declared.content.CellCounts.{CellCounts}
use Rattle.in_arena.specs.declared.spot.Starts.{Starts}

-- these are the beginnings of the second and the third part of the row, the number of cells of each class and of its first one, where there are so
-- many cells of each class
pub record AreStarts (cells : CellCounts) (starts : Starts) : Type 0 where
  pub middle : starts.middle ≡ middle_start cells
  pub far : starts.far ≡ far_start cells
  pub amounts : (c : CellClass) → get_or starts.amounts (class_no c) 0 ≡ amount cells c
  pub firsts : (c : CellClass) → get_or starts.firsts (class_no c) 0 ≡ first_of cells c
