-- The laws of claims: no number is claimed twice, and none is left out once a seat is done.
use Rattle.std.specs.Prelude.{◌≡◌, ℕ, ◌<◌, ◌⊎◌, true, List, [], ◌∷◌, map, replicate, slice_index_or, Contains, Some, slice_get}
use Rattle.in_claims.specs.declared.hands.Hand.{Hand}
use Rattle.in_claims.specs.Rule.{AreClaims}
use Rattle.in_claims.specs.Seats.{BoardView, fresh, hand_of}

-- the numbers that the seat of this number claimed; none if there is no such seat
abbrev pub numbers_of : List Hand → ℕ → List ℕ
numbers_of hands seat = slice_index_or (map (λ h. h.numbers) hands) seat []

-- two claims of one number are one claim, of one seat
abbrev pub ClaimsAreApart : Type 0
ClaimsAreApart = (limit word : ℕ) (hands : List Hand) (k : ℕ) (seat place : ℕ) (other elsewhere : ℕ) → AreClaims limit word hands
    → slice_get (numbers_of hands seat) place ≡ Some k → slice_get (numbers_of hands other) elsewhere ≡ Some k → (seat ≡ other) × (place ≡ elsewhere)

-- each claimed number is below the limit, and the word is past it
abbrev pub ClaimsAreBelowTheLimit : Type 0
ClaimsAreBelowTheLimit = (limit word : ℕ) (hands : List Hand) (k : ℕ) (seat place : ℕ) → AreClaims limit word hands
    → slice_get (numbers_of hands seat) place ≡ Some k → (k < limit) × (k < word)

-- if a seat is done, the word is past the limit, and each number below the limit was claimed by some seat
abbrev pub DoneMeansAllClaimed : Type 0
DoneMeansAllClaimed = (limit word : ℕ) (hands : List Hand) (done : ℕ) (h : Hand) → AreClaims limit word hands
    → slice_get hands done ≡ Some h → h.done ≡ true → (limit < word) × ((k : ℕ) → k < limit → (seat : ℕ) × (place : ℕ) × (slice_get (numbers_of hands seat) place ≡ Some k))

-- two seats of one board: no number is in both lists, and if both are done each number below the limit is in one of them
abbrev pub TwoSeatsShareTheNumbers : Type 0
TwoSeatsShareTheNumbers = (limit word : ℕ) (a b : Hand) → AreClaims limit word (a ∷ b ∷ [])
    → ((k : ℕ) → Contains a.numbers k → Contains b.numbers k → ⊥)
    × (a.done ≡ true → b.done ≡ true → (k : ℕ) → k < limit → Contains a.numbers k ⊎ Contains b.numbers k)

-- the seats of a new board have claimed nothing: the word is 0
abbrev pub NewBoardsAreUnclaimed : Type 0
NewBoardsAreUnclaimed = (board : BoardView) (word : ℕ) → AreClaims board.limit word (map hand_of (replicate board.seats (fresh board))) → word ≡ 0

-- the limit and the hands of the seats determine the word, which is the number of claims
abbrev pub ClaimCountsAreOne : Type 0
ClaimCountsAreOne = (limit word other : ℕ) (hands : List Hand) → AreClaims limit word hands → AreClaims limit other hands → word ≡ other
