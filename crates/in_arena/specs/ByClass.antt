-- Cells that lie class by class, as contracts see them.
use Rattle.std.specs.Prelude.{◌≡◌, ◌<◌, ◌+◌, ℕ, List, map, flat_map, slice_set}
use denote.RawPtr.{Ptr}
use Rattle.in_arena.specs.Arenas.{ArenaView}
use Rattle.in_arena.specs.Classes.{amount, classes, class_no, first_of, width}
use Rattle.in_arena.specs.FreeLists.{states}
use Rattle.in_arena.specs.States.{State}
use Rattle.in_arena.specs.Words.{Word, row_in}
use Rattle.in_arena.specs.declared.content.CellClass.{CellClass}
use Rattle.in_arena.specs.declared.content.CellCounts.{CellCounts}

-- the address of the cells of each class, and their states
abbrev pub seen : (CellClass → Ptr) → CellCounts → (CellClass → List State) → ArenaView
seen block cells row = record { memory = map block classes; cells = cells; states = flat_map row classes }

-- all cells of the classes are the same but one, this cell of this class, which has this state
abbrev pub RowsChange : (CellClass → List State) → (CellClass → List State) → CellClass → ℕ → State → Type 0
RowsChange old new c i x = map new classes ≡ slice_set (map old classes) (class_no c) (slice_set (old c) i x)

-- this number is that of a cell of this class, at this place among them
abbrev pub IsPlace : CellCounts → ℕ → CellClass → ℕ → Type 0
IsPlace cells n c i = (i < amount cells c) × (n ≡ first_of cells c + i)

-- the cell of this number has this place
abbrev pub HasPlace : CellCounts → ℕ → ℕ → Type 0
HasPlace cells n p = (c : CellClass) × (i : ℕ) × IsPlace cells n c i × (p < width c)

-- the view of an owner of words of the row at this address
abbrev pub view_of : Ptr → CellCounts → List Word → ArenaView
view_of at cells ws = seen (λ c. at) cells (λ c. states (row_in cells ws c))
