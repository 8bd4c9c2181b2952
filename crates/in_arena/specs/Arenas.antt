-- The views of an arena and of a lease, and the changes by the calls.
use Rattle.std.specs.Prelude.{◌≡◌, ◌<◌, ◌≤◌, ◌+◌, ℕ, List, length, get_or, take, drop, slice_index_or, slice_set, count_by, Option, Some, None}
use denote.RawPtr.{Ptr, null_ptr}
use Rattle.in_arena.specs.Classes.{IsNumberOf, amount, class_no, first_of}
use Rattle.in_arena.specs.States.{State, Vacant, Leased, IsLeased, IsBegun, is_vacant}
use Rattle.in_arena.specs.declared.content.CellClass.{CellClass}
use Rattle.in_arena.specs.declared.content.CellCounts.{CellCounts}

-- the address of its cells of each class, by the number of the class, by which contracts know an arena; the number of cells of each class; the state
-- of each cell, by its number
pub record ArenaView : Type 0 where
  pub memory : List Ptr
  pub cells : CellCounts
  pub states : List State

-- the class of its cell, the address of the cells of that class, the number of cells of each class, the cell's number, and its content: Vacant if nothing is written
pub record LeaseView : Type 0 where
  pub class : CellClass
  pub memory : Ptr
  pub cells : CellCounts
  pub number : ℕ
  pub state : State

abbrev pub memory_of : ArenaView → CellClass → Ptr
memory_of a c = get_or a.memory (class_no c) null_ptr

-- the state of the cell of this number; leased for a number past the last one
abbrev pub state_at : ArenaView → ℕ → State
state_at a n = slice_index_or a.states n Leased

-- the arena with this cell in that state
abbrev pub changed : ArenaView → ℕ → State → ArenaView
changed a n x = record { memory = a.memory; cells = a.cells; states = slice_set a.states n x }

-- the cells of a class
abbrev pub part_of : ArenaView → CellClass → List State
part_of a c = take (amount a.cells c) (drop (first_of a.cells c) a.states)

-- the number of free cells of a class
abbrev pub free_of : ArenaView → CellClass → ℕ
free_of a c = count_by is_vacant (part_of a c)

-- the lease is of this arena: its cell is one of its class there, and is leased
pub record IsOf (l : LeaseView) (a : ArenaView) : Type 0 where
  pub memory : l.memory ≡ memory_of a l.class
  pub cells : l.cells ≡ a.cells
  pub number : IsNumberOf a.cells l.class l.number
  pub leased : state_at a l.number ≡ Leased

-- from this number on, which isn't below the class's first cell and at most one past its last, all cells of the class are free
pub record IsUsedOf (a : ArenaView) (c : CellClass) (to : ℕ) : Type 0 where
  pub some : first_of a.cells c ≤ to
  pub within : to ≤ first_of a.cells c + amount a.cells c
  pub rest : (n : ℕ) → to ≤ n → n < first_of a.cells c + amount a.cells c → state_at a n ≡ Vacant

abbrev pub NoneLeased : ArenaView → Type 0
NoneLeased a = (n : ℕ) → n < length a.states → IsLeased (state_at a n) → ⊥

-- the lease with that content in its cell
abbrev pub written : LeaseView → State → LeaseView
written l x = record { class = l.class; memory = l.memory; cells = l.cells; number = l.number; state = x }

-- a lease of a cell of this class that was free, or none if none was
abbrev pub Leases : ArenaView → CellClass → Option LeaseView → ArenaView → Type 0
Leases old c None new = (free_of old c ≡ 0) × (new ≡ old)
Leases old c (Some l) new = (l.class ≡ c) × IsNumberOf old.cells c l.number × (state_at old l.number ≡ Vacant) × (new ≡ changed old l.number Leased) × IsOf l new × (l.state ≡ Vacant)

-- the cell of this number, which is of this class and was free, is live with this symbol word and this many open ends
pub record BeginsCell (c : CellClass) (symbol places : ℕ) (old : ArenaView) (n : ℕ) (new : ArenaView) : Type 0 where
  pub at : IsNumberOf old.cells c n
  pub was : state_at old n ≡ Vacant
  pub state : State
  pub begun : IsBegun symbol places state
  pub arena : new ≡ changed old n state
