-- The cells that are lent to the workers of a round, and the owner's rest.
use Rattle.std.specs.Prelude.{◌≡◌, ◌≤◌, ◌*◌, ℕ, List, [], length}
use Rattle.in_arena.specs.Arenas.{ArenaView, state_at}
use Rattle.in_arena.specs.States.{Vacant}
use Rattle.in_arena.specs.declared.content.CellClass.{CellClass}
use Rattle.in_claims.specs.Seats.{BoardView}
use Rattle.in_compile.specs.declared.cells.Need.{Need}
use Rattle.in_compile.specs.Cells.{count_of}
use Rattle.in_compile.specs.Stocks.{empty_stock}
use Rattle.in_rounds.specs.Holding.{AreBagsOf, holders}
use Rattle.in_rounds.specs.Plans.{PlanParts}
use Rattle.in_rounds.specs.Works.{IsReady}
use Rattle.in_rounds.specs.declared.hand.Hand.{Hand}

-- a worker that is ready, without a cell and without a result
pub record IsFreshHand (plan : PlanParts) (board : BoardView) (a : ArenaView) (share : Need) (p : Hand) : Type 0 where
  pub stock : p.stock ≡ empty_stock a share
  pub done : p.done.items ≡ []
  pub ready : IsReady plan board p

-- enough cells are free for `workers` workers with the cells of `share` each
abbrev pub IsShare : ℕ → Need → (CellClass → ℕ) → Type 0
IsShare workers share free = (c : CellClass) → workers * count_of share c ≤ free c

-- the cells of these bags were free and are leased, and no cell is in two; all else of the arena is as it was
pub record AreLentOut (bs : List ArenaView) (a a' : ArenaView) : Type 0 where
  pub memory : a'.memory ≡ a.memory
  pub cells : a'.cells ≡ a.cells
  pub count : length a'.states ≡ length a.states
  pub bags : AreBagsOf bs a'
  pub free : (n : ℕ) → holders n bs ≡ 1 → state_at a n ≡ Vacant
  pub others : (n : ℕ) → holders n bs ≡ 0 → state_at a' n ≡ state_at a n
