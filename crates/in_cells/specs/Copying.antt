-- Agents that are copied from one arena to another, under the numbers of the cells that they get there. That parts of a net are copied is this
-- project's own choice.
use Rattle.std.specs.Prelude.{◌≡◌, ◌<◌, ◌≤◌, ◌+◌, ℕ, Bool, List, length, map, count_by, Some, slice_get, slice_index_or}
use Rattle.in_arena.specs.Arenas.{ArenaView, free_of, state_at}
use Rattle.in_arena.specs.Changes.{AreListedOnce}
use Rattle.in_arena.specs.Classes.{Holds, holds, IsNumberOf}
use Rattle.in_arena.specs.States.{State, Vacant, Leased, Live, IsLive, end_at, places, word_of}
use Rattle.in_arena.specs.declared.content.CellClass.{CellClass}
use Rattle.in_arena.specs.declared.content.CellNo.{CellNo}
use Rattle.in_arena.specs.declared.content.End.{End}
use Rattle.in_arena.specs.declared.content.End.TheVariants.{Cell, Free}

-- ---- numbers

-- the number that a list has for the number of a cell, or of a free end
abbrev pub name_in : List CellNo → ℕ → ℕ
name_in names n = (slice_index_or names n (record { 0 = 0 })).0

abbrev pub number_in : List ℕ → ℕ → ℕ
number_in ends k = slice_index_or ends k 0

-- an end, and the content of a cell, if cells and free ends have these numbers
abbrev pub moved_end : (ℕ → ℕ) → (ℕ → ℕ) → End → End
moved_end name number (Cell c i) = Cell (record { 0 = name c.0 }) i
moved_end name number (Free k) = Free (number k)

abbrev pub moved : (ℕ → ℕ) → (ℕ → ℕ) → State → State
moved name number Vacant = Vacant
moved name number Leased = Leased
moved name number (Live word ends) = Live word (map (moved_end name number) ends)

-- the same symbol word and the same number of places
abbrev pub LooksLike : State → State → Type 0
LooksLike x y = (word_of y ≡ word_of x) × (places y ≡ places x)

-- ---- the copied agents

-- these are live cells, each named once
pub record ArePart (a : ArenaView) (agents : List CellNo) : Type 0 where
  pub live : (k : ℕ) (c : CellNo) → slice_get agents k ≡ Some c → IsLive (state_at a c.0)
  pub once : AreListedOnce agents

-- the live cells are these
abbrev pub AreAllLive : ArenaView → List CellNo → Type 0
AreAllLive a agents = (n : ℕ) → IsLive (state_at a n) → (k : ℕ) × (slice_get agents k ≡ Some (record { 0 = n }))

-- their numbers are below this one
abbrev pub AreBelow : List CellNo → ℕ → Type 0
AreBelow agents many = (k : ℕ) (c : CellNo) → slice_get agents k ≡ Some c → c.0 < many

-- .. in the order of their numbers
pub record IsListOfLive (a : ArenaView) (agents : List CellNo) : Type 0 where
  pub part : ArePart a agents
  pub all : AreAllLive a agents
  pub rising : (j k : ℕ) (c d : CellNo) → j < k → slice_get agents j ≡ Some c → slice_get agents k ≡ Some d → c.0 < d.0

-- an end leads to one of these agents, or to one of `many` free ends
abbrev pub LeadsInto : List CellNo → ℕ → End → Type 0
LeadsInto agents many (Cell c i) = (k : ℕ) × (slice_get agents k ≡ Some c)
LeadsInto agents many (Free k) = k < many

-- .. and so does each of their ends
abbrev pub AreClosed : ArenaView → List CellNo → ℕ → Type 0
AreClosed a agents many = (k i : ℕ) (c : CellNo) (e : End) → slice_get agents k ≡ Some c → end_at (state_at a c.0) i ≡ Some e → LeadsInto agents many e

-- the number of an end's cell, or of the free end, is below these numbers
abbrev pub IsEndWithin : ℕ → ℕ → End → Type 0
IsEndWithin cells many (Cell c i) = c.0 < cells
IsEndWithin cells many (Free k) = k < many

-- the agent takes a cell of this class
abbrev pub is_for : ArenaView → CellClass → CellNo → Bool
is_for a d c = holds d (places (state_at a c.0))

-- each class has as many free cells as these agents take
abbrev pub HasCellsFor : ArenaView → List CellNo → ArenaView → Type 0
HasCellsFor a agents b = (d : CellClass) → count_by (is_for a d) agents ≤ free_of b d

-- ---- the copies

-- different agents have different new numbers
abbrev pub HaveOwnNames : List CellNo → List CellNo → Type 0
HaveOwnNames agents names = (j k : ℕ) (c d : CellNo) → slice_get agents j ≡ Some c → slice_get agents k ≡ Some d → name_in names c.0 ≡ name_in names d.0 → j ≡ k

-- each agent is in its own cell, which was free and is of the class for its places, with its ends under the new numbers; all other cells are as
-- they were
pub record IsCopied (from : ArenaView) (agents : List CellNo) (ends : List ℕ) (names : List CellNo) (old new : ArenaView) : Type 0 where
  pub each : (k : ℕ) (c : CellNo) → slice_get agents k ≡ Some c
      → (state_at old (name_in names c.0) ≡ Vacant) × (state_at new (name_in names c.0) ≡ moved (name_in names) (number_in ends) (state_at from c.0))
  pub classes : (k : ℕ) (c : CellNo) → slice_get agents k ≡ Some c → (d : CellClass) × Holds d (places (state_at from c.0)) × IsNumberOf new.cells d (name_in names c.0)
  pub once : HaveOwnNames agents names
  pub others : (n : ℕ) → ((k : ℕ) (c : CellNo) → slice_get agents k ≡ Some c → name_in names c.0 ≡ n → ⊥) → state_at new n ≡ state_at old n
  pub free : (d : CellClass) → free_of new d + count_by (is_for from d) agents ≡ free_of old d
  pub memory : new.memory ≡ old.memory
  pub cells : new.cells ≡ old.cells
  pub many : length new.states ≡ length old.states
