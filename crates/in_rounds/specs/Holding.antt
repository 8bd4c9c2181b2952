-- Cells that are out of an arena in several bags: the cells of each bag, and giving some back. This project's own choice.
use Rattle.std.specs.Prelude.{◌≡◌, ◌≤◌, ◌<◌, ℕ, Bool, true, false, List, length, count_by, All}
use Rattle.in_arena.specs.Arenas.{ArenaView, state_at}
use Rattle.in_arena.specs.Bags.{IsBagOf}
use Rattle.in_arena.specs.States.{State, Vacant, Leased, Live, IsLeased}

-- a bag has a cell unless the cell is another owner's
abbrev pub is_own : State → Bool
is_own Vacant = true
is_own Leased = false
is_own (Live word ends) = true

-- the number of these bags that have this cell
abbrev pub holders : ℕ → List ArenaView → ℕ
holders n bs = count_by (λ b. is_own (state_at b n)) bs

-- these bags are of this arena, and no cell is in two of them
pub record AreBagsOf (bs : List ArenaView) (a : ArenaView) : Type 0 where
  pub each : All (λ b. IsBagOf b a) bs
  pub once : (n : ℕ) → holders n bs ≤ 1

-- .. and each cell that is leased is in one
pub record HaveAllLeased (bs : List ArenaView) (a : ArenaView) : Type 0 where
  pub bags : AreBagsOf bs a
  pub all : (n : ℕ) → n < length a.states → IsLeased (state_at a n) → holders n bs ≡ 1

-- the bags `after` have some of the cells of the bags `before`, and the others are free again; nothing else of the arena changes
pub record Returns (before after : List ArenaView) (a a' : ArenaView) : Type 0 where
  pub memory : a'.memory ≡ a.memory
  pub cells : a'.cells ≡ a.cells
  pub count : length a'.states ≡ length a.states
  pub fewer : (n : ℕ) → holders n after ≤ holders n before
  pub free : (n : ℕ) → holders n after < holders n before → state_at a' n ≡ Vacant
  pub others : (n : ℕ) → holders n after ≡ holders n before → state_at a' n ≡ state_at a n
