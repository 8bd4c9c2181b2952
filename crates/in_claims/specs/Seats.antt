-- The views of a board and of its seats, and the effect of a claim on its seat.
use Rattle.std.specs.Prelude.{◌≡◌, ◌<◌, ℕ, Bool, true, false, List, [], ◌∷◌, ◌++◌, Option, Some, None}
use Rattle.atomic_table.specs.Seated.{TableId}
use Rattle.in_claims.specs.Rule.{hand}
use Rattle.in_claims.specs.declared.hands.Hand.{Hand}

-- the identity of its table, the limit below which it hands out numbers, and the number of its seats
pub record BoardView : Type 0 where
  pub table : TableId
  pub limit : ℕ
  pub seats : ℕ

-- the board of a seat, the numbers that it claimed, the first one first, and whether it is done
pub record SeatView : Type 0 where
  pub board : BoardView
  pub numbers : List ℕ
  pub done : Bool

-- a seat that has claimed nothing yet
abbrev pub fresh : BoardView → SeatView
fresh board = record { board = board; numbers = []; done = false }

-- the result of a claim, by its seat before and after: a number below the limit, which the seat has then; or none, and the seat is done
abbrev pub Claims : SeatView → Option ℕ → SeatView → Type 0
Claims old (Some k) new = (k < old.board.limit) × (new ≡ record { board = old.board; numbers = old.numbers ++ k ∷ []; done = old.done })
Claims old None new = new ≡ record { board = old.board; numbers = old.numbers; done = true }

-- the hand of a seat, by the rule of its board: it is one of the board's seats, has claimed these numbers, and is done or not
abbrev pub hand_of : SeatView → Hand
hand_of seat = hand 1 (record { limit = seat.board.limit; seats = seat.board.seats }) seat.numbers seat.done
