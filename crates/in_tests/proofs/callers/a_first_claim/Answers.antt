use Rattle.std.proofs.Common.{◌≡◌, ◌<◌, [], map, sym, subst, ◌∙◌}
use Rattle.std.proofs.lemmas.List.{same_from_push}
use Rattle.in_claims.specs.Rule.{AreClaims}
use Rattle.in_claims.specs.Seats.{SeatView, Claims, fresh, hand_of}
use Rattle.in_tests.proofs.First.{first_is_zero}
use Rattle.in_tests.proofs.callers.a_first_claim.Goals as goal

pub returns : goal.returns
returns c =
    let board = c.in_ok-board.board in
    let new : SeatView = c.claim-found.new.seat in
    let seat : c.in-Some.seat ≡ fresh board = (same_from_push c.pop.new.self.items [] c.in-Some.seat (fresh board) (sym c.in-Some.ensures.items ∙ c.in_ok-board.ensures.seats)).1 in
    let got = subst (λ s. Claims s c.claim-found.result new) seat c.claim-found.ensures.claims in
    let claims = subst (λ l. AreClaims board.limit c.take_back-claims.result (map hand_of l)) c.in_ok-vec.ensures.items c.take_back-claims.ensures in
    first_is_zero board c.claim-found.result new c.take_back-claims.result got (subst (λ n. 0 < n) (sym c.in_ok-board.ensures.limit) c.requires) claims
