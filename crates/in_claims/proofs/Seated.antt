-- Seats as they are made, and as they are taken back.
use Rattle.std.proofs.Common.{◌≡◌, ℕ, ◌+◌, ◌<◌, List, [], ◌∷◌, ◌++◌, length, map, All, sym, ap, ◌∙◌, replicate, arith}
use Rattle.std.proofs.lemmas.List.{replicate_more, append_assoc, map_push}
use Rattle.std.proofs.lemmas.List.Elements.{All-head}
use Rattle.in_claims.specs.Rule.{limit_of}
use Rattle.in_claims.specs.Seats.{BoardView, SeatView, fresh, hand_of}
use Rattle.in_claims.specs.declared.hands.Hand.{Hand}

-- one seat more that has claimed nothing
pub one_more_seat : (seats : List SeatView) (board : BoardView) (made : ℕ) (seat : SeatView) → seats ≡ replicate made (fresh board) → seat ≡ fresh board →
    (all : ℕ) → made + 1 ≡ all → seats ++ seat ∷ [] ≡ replicate all (fresh board)
one_more_seat seats board made seat were is all more =
    ap (λ s. seats ++ s ∷ []) is ∙ ap (λ l. l ++ fresh board ∷ []) were ∙ replicate_more made (fresh board) ∙ ap (λ n. replicate n (fresh board)) more

-- the last seat that is left is taken, and its hand goes before those that were taken
pub taken : (old rest : List SeatView) (seat : SeatView) (hands all : List Hand) → old ≡ rest ++ seat ∷ [] → map hand_of old ++ hands ≡ all → map hand_of rest ++ hand_of seat ∷ hands ≡ all
taken old rest seat hands all split were =
    sym (append_assoc (map hand_of rest) (hand_of seat ∷ []) hands) ∙ ap (λ l. l ++ hands) (sym (map_push hand_of rest seat)) ∙ ap (λ l. map hand_of l ++ hands) (sym split) ∙ were

pub limit_of_seats : (board : BoardView) (seats : List SeatView) → 0 < length seats → All (λ s. s.board ≡ board) seats → limit_of (map hand_of seats) ≡ board.limit
limit_of_seats board [] one of = absurd (omega arith)
limit_of_seats board (seat ∷ seats) one of = ap (λ (b : BoardView). b.limit) (All-head (λ (s : SeatView). s.board ≡ board) seat seats of)
