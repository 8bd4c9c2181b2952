use Rattle.std.proofs.Common.{◌≡◌, ℕ, Option, Some, [], ◌∷◌, ◌++◌, map, refl, sym, ap, subst, ◌∙◌, arith, Contains}
use Rattle.in_claims.specs.Rule.{AreClaims}
use Rattle.in_claims.specs.Seats.{SeatView, Claims, hand_of}
use Rattle.in_tests.proofs.callers.a_claim_of_each.Goals as goal

has : (old new : SeatView) (found : Option ℕ) (k : ℕ) → old.numbers ≡ [] → Claims old found new → found ≡ Some k → Contains new.numbers k
has old new found k none got is =
    let given = subst (λ r. Claims old r new) is got in
    let numbers : new.numbers ≡ k ∷ [] = ap (λ (s : SeatView). s.numbers) given.1 ∙ ap (λ l. l ++ k ∷ []) none in
    subst (λ l. Contains l k) (sym numbers) (0, omega arith, refl)

pub returns : goal.returns
returns c k one other =
    let first : SeatView = c.claim-one.new.seat in
    let second : SeatView = c.claim-other.new.seat in
    let claims = subst (λ l. AreClaims c.in_ok-board.board.limit c.take_back-claims.result (map hand_of l)) c.in_ok-vec.ensures.items c.take_back-claims.ensures in
    (c.two_seats_share_the_numbers.ensures c.in_ok-board.board.limit c.take_back-claims.result (hand_of first) (hand_of second) claims).0 k
    (has c.in_ok-board.first first c.claim-one.result k c.in_ok-board.ensures.claims.0 c.claim-one.ensures.claims one)
    (has c.in_ok-board.second second c.claim-other.result k c.in_ok-board.ensures.claims.1 c.claim-other.ensures.claims other)
