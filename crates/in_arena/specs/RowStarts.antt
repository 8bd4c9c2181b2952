-- Where the row of an arena begins.
use Rattle.std.specs.Prelude.{◌≡◌, ℕ}
use Rattle.in_arena.specs.Arenas.{ArenaView, changed, memory_of}
use Rattle.in_arena.specs.States.{State}
use Rattle.in_arena.specs.declared.arena.RowStart.{RowStart}
use Rattle.in_arena.specs.declared.content.CellClass.{CellClass}

-- the cells of each class are in the row that begins there
abbrev pub IsRowStart : RowStart → ArenaView → Type 0
IsRowStart row a = (c : CellClass) → memory_of a c ≡ row.base.ptr

-- ---- consequences

-- an arena's row begins at one place
abbrev pub RowStartsAreOne : Type 0
RowStartsAreOne = (row other : RowStart) (a : ArenaView) → IsRowStart row a → IsRowStart other a → row ≡ other

-- it begins there after a change of a cell
abbrev pub RowStartsStay : Type 0
RowStartsStay = (row : RowStart) (a : ArenaView) (n : ℕ) (x : State) → IsRowStart row a → IsRowStart row (changed a n x)
