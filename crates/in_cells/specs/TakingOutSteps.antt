-- How agents leave an arena, and how its free ends get other numbers, one after another. No contract of a public call speaks of it. This
-- project's own choice.
use Rattle.std.specs.Prelude.{◌≡◌, ◌<◌, ◌+◌, ℕ, nat_lt, cond, List, length, take, count_by, Some, slice_get}
use Rattle.in_arena.specs.Arenas.{ArenaView, free_of, state_at}
use Rattle.in_arena.specs.States.{Vacant}
use Rattle.in_arena.specs.declared.content.CellClass.{CellClass}
use Rattle.in_arena.specs.declared.content.CellNo.{CellNo}
use Rattle.in_cells.specs.Copying.{is_for}

-- the cells of the first x agents are free
pub record AreRetiredBelow (agents : List CellNo) (old : ArenaView) (x : ℕ) (now : ArenaView) : Type 0 where
  pub gone : (k : ℕ) (c : CellNo) → k < x → slice_get agents k ≡ Some c → state_at now c.0 ≡ Vacant
  pub others : (y : ℕ) → ((k : ℕ) → k < x → slice_get agents k ≡ Some (record { 0 = y }) → ⊥) → state_at now y ≡ state_at old y
  pub free : (d : CellClass) → free_of now d ≡ free_of old d + count_by (is_for old d) (take x agents)
  pub memory : now.memory ≡ old.memory
  pub cells : now.cells ≡ old.cells
  pub many : length now.states ≡ length old.states

-- free ends below this number have new numbers
abbrev pub number_below : (ℕ → ℕ) → ℕ → ℕ → ℕ
number_below number x k = cond (nat_lt k x) (number k) k
