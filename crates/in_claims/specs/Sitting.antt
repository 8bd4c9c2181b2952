-- The views of a board and of a seat, and the invariants of their fields.
use Rattle.std.specs.Prelude.{◌≡◌, ◌<◌, ◌≤◌, false, List, [], ◌∷◌}
use Rattle.in_claims.specs.Rule.{hand}
use Rattle.in_claims.specs.Seats.{BoardView, SeatView, hand_of}
use Rattle.in_claims.specs.declared.hands.Hand.{Hand}
use Rattle.in_claims.specs.declared.board.Board.TheInside.{Inside as BoardFields}
use Rattle.in_claims.specs.declared.board.Seat.TheInside.{Inside as SeatFields}

abbrev pub board_view : BoardFields → BoardView
board_view b = record { table = b.table.shared.table_id; limit = b.size.limit; seats = b.size.seats }

-- its table has one word and is of its size, and it has 1 to 64 seats
pub record IsBoard (b : BoardFields) : Type 0 where
  pub one_word : b.table.shared.table_id.words ≡ 1
  pub key_is : b.table.shared.key ≡ b.size
  pub some_seat : 0 < b.size.seats
  pub few_seats : b.size.seats ≤ 64

-- the hand of a seat that has one
abbrev pub only : List Hand → Hand
only [] = hand 0 (record { limit = 0; seats = 0 }) [] false
only (h ∷ hands) = h

abbrev pub seat_view : SeatFields → SeatView
seat_view s =
    let h = only s.inner.me.0 in
    record { board = record { table = s.inner.table_id; limit = h.size.limit; seats = h.size.seats }; numbers = h.numbers; done = s.done }

-- the table has for it the hand that contracts see, alone and with one share, and no slot
pub record IsSitting (s : SeatFields) : Type 0 where
  pub me_is : s.inner.me ≡ (hand_of (seat_view s) ∷ [], [])
