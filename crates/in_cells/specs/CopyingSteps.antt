-- How agents are copied, one after another. No contract of a public call speaks of it. This project's own choice.
use Rattle.std.specs.Prelude.{◌≡◌, ◌<◌, ◌+◌, ℕ, cond, List, length, map, take, count_by, Some, slice_get}
use Rattle.in_arena.specs.Arenas.{ArenaView, changed, free_of, state_at}
use Rattle.in_arena.specs.Classes.{Holds, holds, IsNumberOf}
use Rattle.in_arena.specs.States.{State, Vacant, Live, IsLive, places}
use Rattle.in_arena.specs.declared.content.CellClass.{CellClass}
use Rattle.in_arena.specs.declared.content.CellNo.{CellNo}
use Rattle.in_arena.specs.declared.content.End.{End}
use Rattle.in_cells.specs.Copying.{LooksLike, HaveOwnNames, is_for, moved, moved_end, name_in, number_in}

-- the live cells of the first x are these
pub record AreListedBelow (a : ArenaView) (x : ℕ) (cells : List CellNo) : Type 0 where
  pub live : (k : ℕ) (c : CellNo) → slice_get cells k ≡ Some c → IsLive (state_at a c.0)
  pub below : (k : ℕ) (c : CellNo) → slice_get cells k ≡ Some c → c.0 < x
  pub all : (n : ℕ) → n < x → IsLive (state_at a n) → (k : ℕ) × (slice_get cells k ≡ Some (record { 0 = n }))
  pub rising : (j k : ℕ) (c d : CellNo) → j < k → slice_get cells j ≡ Some c → slice_get cells k ≡ Some d → c.0 < d.0

-- a cell of the class for that agent, which was free, is live with the same symbol word and the same number of places
pub record TakesCell (x : State) (old : ArenaView) (n : ℕ) (new : ArenaView) : Type 0 where
  pub class : CellClass
  pub held : Holds class (places x)
  pub at : IsNumberOf old.cells class n
  pub was : state_at old n ≡ Vacant
  pub state : State
  pub alike : LooksLike x state
  pub arena : new ≡ changed old n state
  pub left : (d : CellClass) → free_of new d + cond (holds d (places x)) 1 0 ≡ free_of old d

-- the agent has a cell of its class, which was free
pub record HasCell (x : State) (old now : ArenaView) (n : ℕ) : Type 0 where
  pub was : state_at old n ≡ Vacant
  pub alike : LooksLike x (state_at now n)
  pub class : (d : CellClass) × Holds d (places x) × IsNumberOf old.cells d n

-- the first x agents have their cells
pub record HaveCellsBelow (from : ArenaView) (agents : List CellNo) (old : ArenaView) (x : ℕ) (now : ArenaView) (names : List CellNo) : Type 0 where
  pub each : (k : ℕ) (c : CellNo) → k < x → slice_get agents k ≡ Some c → HasCell (state_at from c.0) old now (name_in names c.0)
  pub once : (j k : ℕ) (c d : CellNo) → j < x → k < x → slice_get agents j ≡ Some c → slice_get agents k ≡ Some d → name_in names c.0 ≡ name_in names d.0 → j ≡ k
  pub others : (n : ℕ) → ((k : ℕ) (c : CellNo) → k < x → slice_get agents k ≡ Some c → name_in names c.0 ≡ n → ⊥) → state_at now n ≡ state_at old n
  pub free : (d : CellClass) → free_of now d + count_by (is_for from d) (take x agents) ≡ free_of old d
  pub memory : now.memory ≡ old.memory
  pub cells : now.cells ≡ old.cells
  pub many : length now.states ≡ length old.states

-- each agent has its own cell, where it will be written
pub record HaveOwnCells (from : ArenaView) (agents names : List CellNo) (now : ArenaView) : Type 0 where
  pub each : (k : ℕ) (c : CellNo) → slice_get agents k ≡ Some c → LooksLike (state_at from c.0) (state_at now (name_in names c.0))
  pub once : HaveOwnNames agents names

-- the cell has the content with its first i ends written
pub record IsBeingMoved (name number : ℕ → ℕ) (x : State) (n i : ℕ) (first now : ArenaView) : Type 0 where
  pub word : ℕ
  pub all : List End
  pub is : x ≡ Live word all
  pub ends : List End
  pub arena : now ≡ changed first n (Live word ends)
  pub count : length ends ≡ length all
  pub so_far : take i ends ≡ map (moved_end name number) (take i all)

-- the first x agents are written in their cells
pub record AreMovedBelow (from : ArenaView) (agents names : List CellNo) (ends : List ℕ) (first : ArenaView) (x : ℕ) (now : ArenaView) : Type 0 where
  pub each : (k : ℕ) (c : CellNo) → k < x → slice_get agents k ≡ Some c → state_at now (name_in names c.0) ≡ moved (name_in names) (number_in ends) (state_at from c.0)
  pub others : (n : ℕ) → ((k : ℕ) (c : CellNo) → k < x → slice_get agents k ≡ Some c → name_in names c.0 ≡ n → ⊥) → state_at now n ≡ state_at first n
  pub free : (d : CellClass) → free_of now d ≡ free_of first d
  pub memory : now.memory ≡ first.memory
  pub cells : now.cells ≡ first.cells
  pub many : length now.states ≡ length first.states
