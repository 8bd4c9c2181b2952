-- The first claim of the only seat of a board that has numbers is 0.
use Rattle.std.proofs.Common.{◌≡◌, ℕ, ◌<◌, min, Option, Some, None, cond, nat_lt, eqb, [], ◌∷◌, ap, subst, arith}
use Rattle.std.proofs.lemmas.Bool.Decides.{nat_tests}
use Rattle.in_claims.specs.Rule.{AreClaims}
use Rattle.in_claims.specs.Seats.{BoardView, SeatView, Claims, fresh, hand_of}

only_zero : (k m : ℕ) → Path ℕ (cond (eqb k k) 1 0) (cond (nat_lt k m) 1 0) → Path ℕ (cond (eqb k 0) 1 0) (cond (nat_lt 0 m) 1 0) → k ≡ 0
only_zero k m here there = grind (arith, nat_tests)

none_below : (m : ℕ) → Path ℕ 0 (cond (nat_lt 0 m) 1 0) → m ≡ 0
none_below m none = grind (arith, nat_tests)

pub first_is_zero : (board : BoardView) (found : Option ℕ) (new : SeatView) (word : ℕ) → Claims (fresh board) found new → 0 < board.limit → AreClaims board.limit word (hand_of new ∷ []) → found ≡ Some 0
first_is_zero board (Some k) new word got has claims =
    let after = subst (λ s. AreClaims board.limit word (hand_of s ∷ [])) got.1 claims in
    ap (λ (n : ℕ). Some n) (only_zero k (min word board.limit) (omega (arith, after.once k)) (omega (arith, after.once 0)))
first_is_zero board None new word got has claims =
    let after = subst (λ s. AreClaims board.limit word (hand_of s ∷ [])) got claims in
    let none = none_below (min word board.limit) (omega (arith, after.once 0)) in
    absurd (omega (arith, none, after.done))
