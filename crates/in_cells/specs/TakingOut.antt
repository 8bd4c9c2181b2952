-- Agents that leave an arena, and free ends that get other numbers in it: so a part of a net is taken out, and the rest is numbered anew. This
-- project's own choice.
use Rattle.std.specs.Prelude.{◌≡◌, ◌+◌, ℕ, List, length, count_by, Some, slice_get}
use Rattle.in_arena.specs.Arenas.{ArenaView, free_of, state_at}
use Rattle.in_arena.specs.Changes.{AsManyAreFree, UnlistedStay}
use Rattle.in_arena.specs.Classes.{Holds, IsNumberOf}
use Rattle.in_arena.specs.States.{Vacant, end_at, places}
use Rattle.in_arena.specs.declared.content.CellClass.{CellClass}
use Rattle.in_arena.specs.declared.content.CellNo.{CellNo}
use Rattle.in_arena.specs.declared.content.End.{End}
use Rattle.in_arena.specs.declared.content.End.TheVariants.{Cell, Free}
use Rattle.in_cells.specs.Copying.{is_for, moved}

module _ (a : ArenaView) (agents : List CellNo) where
  -- each of these agents is in a cell of the class for its places
  abbrev pub AreClassed : Type 0
  AreClassed = (k : ℕ) (c : CellNo) (d : CellClass) → slice_get agents k ≡ Some c → IsNumberOf a.cells d c.0 → Holds d (places (state_at a c.0))

  -- the other arena has more free cells of each class, by as many as these agents took
  abbrev pub FreesCellsOf : ArenaView → Type 0
  FreesCellsOf b = (d : CellClass) → free_of b d ≡ free_of a d + count_by (is_for a d) agents

-- the cells of these agents are free, and all others are as they were
pub record AreRetired (agents : List CellNo) (old new : ArenaView) : Type 0 where
  pub gone : (k : ℕ) (c : CellNo) → slice_get agents k ≡ Some c → state_at new c.0 ≡ Vacant
  pub others : UnlistedStay agents old new
  pub free : FreesCellsOf old agents new
  pub memory : new.memory ≡ old.memory
  pub cells : new.cells ≡ old.cells
  pub many : length new.states ≡ length old.states

-- the list has the partner of each free end: a place of a cell is in it if and only if the place leads to that free end
pub record AreLedTo (a : ArenaView) (ends : List End) : Type 0 where
  pub back : (k i : ℕ) (c : CellNo) → slice_get ends k ≡ Some (Cell c i) → end_at (state_at a c.0) i ≡ Some (Free k)
  pub all : (y i k : ℕ) → end_at (state_at a y) i ≡ Some (Free k) → slice_get ends k ≡ Some (Cell (record { 0 = y }) i)

-- each place that leads to a free end has its new number, and all else is as it was
pub record AreNumberedAnew (number : ℕ → ℕ) (old new : ArenaView) : Type 0 where
  pub each : (y : ℕ) → state_at new y ≡ moved (λ z. z) number (state_at old y)
  pub free : AsManyAreFree old new
  pub memory : new.memory ≡ old.memory
  pub cells : new.cells ≡ old.cells
  pub many : length new.states ≡ length old.states
