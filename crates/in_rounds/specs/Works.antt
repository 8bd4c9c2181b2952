-- The state of a worker when it begins and when it ends.
use Rattle.std.specs.Prelude.{◌≡◌, ◌≤◌, ◌+◌, ◌⊎◌, true, ℕ, List, [], ◌∷◌, ◌++◌, map, length, All, Some, slice_get, vec_len, vec_capacity}
use Rattle.in_arena.specs.Arenas.{ArenaView}
use Rattle.in_arena.specs.Bags.{AreOfOne}
use Rattle.in_claims.specs.Seats.{BoardView}
use Rattle.in_compile.specs.declared.cells.Need.{Need}
use Rattle.in_compile.specs.Cells.{count_of, IsEnough}
use Rattle.in_compile.specs.Placing.{PlacedParts, HasNoCell}
use Rattle.in_compile.specs.Stocks.{StockParts, held}
use Rattle.in_compile.specs.Templates.{AreMostAgents, IsLargestNeed, TemplateParts}
use Rattle.in_rounds.specs.Dones.{DoneParts}
use Rattle.in_rounds.specs.Holding.{holders}
use Rattle.in_rounds.specs.Plans.{PlanParts}
use Rattle.in_rounds.specs.declared.hand.Hand.{Hand}

-- the template of a job of the plan is placed
pub record IsDoneJob (plan : PlanParts) (d : DoneParts) : Type 0 where
  pub templates : d.templates ≡ plan.templates
  pub job : slice_get plan.jobs d.job ≡ Some d.heads

-- the bags of the results
abbrev pub bags : List DoneParts → List ArenaView
bags ds = map (λ d. d.placed.placed.bag) ds

abbrev pub jobs : List DoneParts → List ℕ
jobs ds = map (λ d. d.job) ds

-- room for any of these templates, of the stock's arena
pub record IsEmptyRoom (templates : List TemplateParts) (s : StockParts) (p : PlacedParts) : Type 0 where
  pub one : AreOfOne s.bag p.bag
  pub none : HasNoCell p.bag
  pub room : (most : ℕ) × AreMostAgents templates most × (most ≤ p.room)

-- a seat of this board, which hands out the numbers of the jobs, and room in the list for as many jobs as there are empty rooms
pub record IsReady (plan : PlanParts) (board : BoardView) (p : Hand) : Type 0 where
  pub of_board : p.seat.board ≡ board
  pub limit : board.limit ≤ length plan.jobs
  pub rooms : All (IsEmptyRoom plan.templates.templates p.stock) p.rooms.items
  pub list : vec_len p.done + vec_len p.rooms ≤ vec_capacity p.done

-- its seat is done, or its stock doesn't hold the most that a job can need, or there is no more room
abbrev pub StopsWorking : PlanParts → Hand → Type 0
StopsWorking plan p = (p.seat.done ≡ true) ⊎ (((largest : Need) × IsLargestNeed plan.templates.templates largest × (IsEnough (count_of largest) (held p.stock) → ⊥)) ⊎ (vec_len p.rooms ≡ 0))

-- it did more jobs, which its seat claimed; their cells and those of its stock are together those that it had
pub record Works (plan : PlanParts) (old new : Hand) : Type 0 where
  pub more : List DoneParts
  pub list : new.done.items ≡ old.done.items ++ more
  pub board : new.seat.board ≡ old.seat.board
  pub claimed : new.seat.numbers ≡ old.seat.numbers ++ jobs more
  pub each : All (IsDoneJob plan) more
  pub one : AreOfOne old.stock.bag new.stock.bag × All (λ d. AreOfOne old.stock.bag d.placed.placed.bag) more
  pub cells : (n : ℕ) → holders n (new.stock.bag ∷ bags more) ≡ holders n (old.stock.bag ∷ [])

pub record IsWorked (plan : PlanParts) (old new : Hand) : Type 0 where
  pub works : Works plan old new
  pub stops : StopsWorking plan new
