-- The claims under the rule of a board: none is made twice, none is left out once a seat is done, none was made while all seats are new, and their
-- number is one.
use Rattle.std.proofs.Common.{◌≡◌, inl, inr, ℕ, zero, suc, ◌≤◌, ◌<◌, min, true, false, cond, nat_lt, Some, List, [], ◌∷◌, map, length, get_or, replicate, refl, sym, ap, subst, ◌∙◌, arith, eqb, Contains, count_by, slice_get}
use Rattle.std.proofs.Math.ListN.{get_or-eq_default}
use Rattle.std.proofs.lemmas.Bool.{cases_lt, cases_eq}
use Rattle.std.proofs.lemmas.Bool.Decides.{nat_tests}
use Rattle.std.proofs.lemmas.Grind.{get_or_default_zero}
use Rattle.std.proofs.lemmas.List.{get_or-map, length-map}
use Rattle.std.specs.List.{sum_by}
use Rattle.std.proofs.lemmas.List.Sums.{sum_by-cons, get_or-le-sum_by}
use Rattle.std.proofs.lemmas.Option.{slice_get_within, get_or_from_slice_get, slice_get-get_or}
use Rattle.in_claims.specs.declared.hands.Hand.{Hand}
use Rattle.in_claims.specs.Rule.{hand, times_claimed, done_count, AreClaims}
use Rattle.in_claims.specs.Laws.{numbers_of, ClaimCountsAreOne, ClaimsAreApart, ClaimsAreBelowTheLimit, DoneMeansAllClaimed, NewBoardsAreUnclaimed, TwoSeatsShareTheNumbers}
use Rattle.in_claims.specs.Seats.{BoardView, fresh, hand_of}
use Rattle.in_claims.proofs.Sums.{at_most, if_below, two_of_sum, some_term, counted_at, stands_counted}

-- the hand for a number without a seat
abbrev nobody : Hand
nobody = hand 0 (record { limit = 0; seats = 0 }) [] false

-- the hand of the seat of this number
abbrev of_seat : List Hand → ℕ → Hand
of_seat hands seat = get_or hands seat nobody

record Stands (hands : List Hand) (k seat place : ℕ) : Type 0 where
  seat_in : seat < length hands
  place_in : place < length (of_seat hands seat).numbers
  is : get_or (of_seat hands seat).numbers place 0 ≡ k

seat_inside : (hands : List Hand) (seat place : ℕ) → place < length (numbers_of hands seat) → seat < length hands
seat_inside hands seat place inside =
    elim (cases_lt seat (length hands)) [
      | inl lt ↦ lt
      | inr ge ↦
          let long : length (map (λ (h : Hand). h.numbers) hands) ≡ length hands = length-map hands (λ (h : Hand). h.numbers) in
          let none : numbers_of hands seat ≡ [] = get_or-eq_default (map (λ (h : Hand). h.numbers) hands) [] (omega arith) in
          absurd (omega (arith, ap (λ (l : List ℕ). length l) none))
    ]

stands : (hands : List Hand) (k seat place : ℕ) → slice_get (numbers_of hands seat) place ≡ Some k → Stands hands k seat place
stands hands k seat place at =
    let inside = slice_get_within (numbers_of hands seat) place k at in
    let seat_in = seat_inside hands seat place inside in
    let same : numbers_of hands seat ≡ (of_seat hands seat).numbers = get_or-map (λ (h : Hand). h.numbers) hands seat nobody [] seat_in in
    record {
      seat_in = seat_in;
      place_in = subst (λ (l : List ℕ). place < length l) same inside;
      is = subst (λ (l : List ℕ). get_or l place 0 ≡ k) same (get_or_from_slice_get (numbers_of hands seat) place k 0 at);
    }

-- the number of times that the number is in this list
abbrev count : ℕ → List ℕ → ℕ
count k numbers = count_by (λ j. eqb j k) numbers

counts : (hands : List Hand) (k seat place : ℕ) → Stands hands k seat place → 1 ≤ count k (of_seat hands seat).numbers
counts hands k seat place at = subst (λ n. 1 ≤ count n (of_seat hands seat).numbers) at.is (stands_counted (of_seat hands seat).numbers place at.place_in)

below_both : (limit word : ℕ) (hands : List Hand) (k seat place : ℕ) → AreClaims limit word hands → Stands hands k seat place → k < min word limit
below_both limit word hands k seat place claims at =
    if_below k (min word limit) (omega (arith, get_or-le-sum_by (λ (h : Hand). count k h.numbers) hands seat nobody at.seat_in, counts hands k seat place at, claims.once k))

is_one : (j k : ℕ) → j ≡ k → 1 ≤ cond (eqb j k) 1 0
is_one j k e = grind (arith, nat_tests)

one_place : (k : ℕ) (numbers : List ℕ) (place elsewhere : ℕ) → place < length numbers → elsewhere < length numbers → get_or numbers place 0 ≡ k → get_or numbers elsewhere 0 ≡ k → count k numbers ≤ 1 → place ≡ elsewhere
one_place k numbers place elsewhere inside there is that once =
    elim (cases_eq place elsewhere) [
      | inl e ↦ e
      | inr apart ↦ absurd (omega (arith, two_of_sum (λ j. cond (eqb j k) 1 0) numbers place elsewhere 0 apart inside there, is_one (get_or numbers place 0) k is, is_one (get_or numbers elsewhere 0) k that))
    ]

one_claim : (limit word : ℕ) (hands : List Hand) (k seat place other elsewhere : ℕ) → AreClaims limit word hands → Stands hands k seat place → Stands hands k other elsewhere → (seat ≡ other) × (place ≡ elsewhere)
one_claim limit word hands k seat place other elsewhere claims at there =
    let once : times_claimed k hands ≤ 1 = omega (arith, claims.once k, at_most (nat_lt k (min word limit)) 1) in
    let seats : seat ≡ other = elim (cases_eq seat other) [
      | inl e ↦ e
      | inr apart ↦ absurd (omega (arith, two_of_sum (λ (h : Hand). count k h.numbers) hands seat other nobody apart at.seat_in there.seat_in, counts hands k seat place at, counts hands k other elsewhere there))
    ] in
    let here : Stands hands k seat elsewhere = subst (λ s. Stands hands k s elsewhere) (sym seats) there in
    (seats, one_place k (of_seat hands seat).numbers place elsewhere at.place_in here.place_in at.is here.is (omega (arith, once, get_or-le-sum_by (λ (h : Hand). count k h.numbers) hands seat nobody at.seat_in)))

pub apart : ClaimsAreApart
apart limit word hands k seat place other elsewhere claims at there =
    one_claim limit word hands k seat place other elsewhere claims (stands hands k seat place at) (stands hands k other elsewhere there)

pub below : ClaimsAreBelowTheLimit
below limit word hands k seat place claims at =
    let least = below_both limit word hands k seat place claims (stands hands k seat place at) in
    (omega (arith, least), omega (arith, least))

counted_below : (k n : ℕ) → k < n → 1 ≤ cond (nat_lt k n) 1 0
counted_below k n h = grind (arith, nat_tests)

-- once a seat is done, each number below the limit is claimed
all_claimed : (limit word : ℕ) (hands : List Hand) → AreClaims limit word hands → 1 ≤ done_count hands → (k : ℕ) → k < limit → 1 ≤ times_claimed k hands
all_claimed limit word hands claims some_done k lt =
    omega (arith, claims.once k, counted_below k (min word limit) (omega (arith, claims.done)))

is_done : (h : Hand) → h.done ≡ true → 1 ≤ cond h.done 1 0
is_done h e = let one : Path ℕ (cond h.done 1 0) 1 = ap (λ b. cond b 1 0) e in omega arith

-- a number that is counted in a seat's list is there
place_of : (hands : List Hand) (k seat : ℕ) → seat < length hands → 1 ≤ count k (of_seat hands seat).numbers → (place : ℕ) × (slice_get (numbers_of hands seat) place ≡ Some k)
place_of hands k seat inside counted =
    let same : numbers_of hands seat ≡ (of_seat hands seat).numbers = get_or-map (λ (u : Hand). u.numbers) hands seat nobody [] inside in
    stands_in (of_seat hands seat).numbers (numbers_of hands seat) k same (counted_at (of_seat hands seat).numbers k counted)
  where
    stands_in : (numbers list : List ℕ) (k : ℕ) → list ≡ numbers → (i : ℕ) × (i < length numbers) × (get_or numbers i 0 ≡ k) → (place : ℕ) × (slice_get list place ≡ Some k)
    stands_in numbers list k same at = (at.0, ap (λ l. slice_get l at.0) same ∙ slice_get-get_or numbers at.0 0 at.1 ∙ ap (λ (n : ℕ). Some n) at.2)

-- a seat and a place at which this number is claimed
claimed_by : (hands : List Hand) (k : ℕ) → 1 ≤ times_claimed k hands → (seat : ℕ) × (place : ℕ) × (slice_get (numbers_of hands seat) place ≡ Some k)
claimed_by hands k claimed =
    let seat = some_term (λ (u : Hand). count k u.numbers) hands nobody claimed in
    let at = place_of hands k seat.0 seat.1 seat.2 in
    (seat.0, at.0, at.1)

pub none_left : DoneMeansAllClaimed
none_left limit word hands done h claims at is_done_now =
    let inside = slice_get_within hands done h at in
    let here : get_or hands done nobody ≡ h = get_or_from_slice_get hands done h nobody at in
    let term = get_or-le-sum_by (λ (u : Hand). cond u.done 1 0) hands done nobody inside in
    let one = is_done (get_or hands done nobody) (ap (λ (u : Hand). u.done) here ∙ is_done_now) in
    let some_done : 1 ≤ done_count hands = omega (arith, term, one) in
    (omega (arith, some_done, claims.done), λ k lt. claimed_by hands k (all_claimed limit word hands claims some_done k lt))

contained : (k : ℕ) (numbers : List ℕ) → 1 ≤ count k numbers → Contains numbers k
contained k numbers h = let t = counted_at numbers k h in (t.0, t.1, get_or_default_zero numbers t.0 k t.1 ∙ t.2)

contains_counted : (k : ℕ) (numbers : List ℕ) → Contains numbers k → 1 ≤ count k numbers
contains_counted k numbers c =
    let same : get_or numbers c.0 0 ≡ k = sym (get_or_default_zero numbers c.0 k c.1) ∙ c.2 in
    subst (λ n. 1 ≤ count n numbers) same (stands_counted numbers c.0 c.1)

pub shared : TwoSeatsShareTheNumbers
shared limit word a b claims = (
  (λ k first second. absurd (omega (arith, claims.once k, at_most (nat_lt k (min word limit)) 1, contains_counted k a.numbers first, contains_counted k b.numbers second))),
  (λ one other k lt.
      let claimed = all_claimed limit word (a ∷ b ∷ []) claims (omega (arith, is_done a one)) k lt in
      elim (cases_lt 0 (count k a.numbers)) [ inl some ↦ inl (contained k a.numbers some) | inr none ↦ inr (contained k b.numbers (omega (arith, claimed))) ]),
)

-- if f is 0 for each new seat, the sum of f over them is 0
none_in_new : (f : Hand → ℕ) (board : BoardView) → f (hand_of (fresh board)) ≡ 0 → (n : ℕ) → sum_by f (map hand_of (replicate n (fresh board))) ≡ 0
none_in_new f board none zero = refl
none_in_new f board none (suc n) =
    omega (arith, sum_by-cons f (hand_of (fresh board)) (map hand_of (replicate n (fresh board))), none, none_in_new f board none n)

pub unclaimed : NewBoardsAreUnclaimed
unclaimed board word claims =
    let hands : List Hand = map hand_of (replicate board.seats (fresh board)) in
    let none : times_claimed 0 hands ≡ 0 = none_in_new (λ (h : Hand). count 0 h.numbers) board refl board.seats in
    let not_done : done_count hands ≡ 0 = none_in_new (λ (h : Hand). cond h.done 1 0) board refl board.seats in
    elim (cases_lt 0 (min word board.limit)) [
      | inl some ↦ absurd (omega (arith, counted_below 0 (min word board.limit) some, claims.once 0, none))
      | inr ended ↦ omega (arith, claims.done, not_done)
    ]

not_below : (k n : ℕ) → n ≤ k → cond (nat_lt k n) 1 0 ≤ 0
not_below k n h = grind (arith, nat_tests)

-- numbers are claimed as far by the one word as by the other
as_far : (limit word other : ℕ) (hands : List Hand) → AreClaims limit word hands → AreClaims limit other hands → min word limit ≤ min other limit
as_far limit word other hands one two =
    elim (cases_lt (min other limit) (min word limit)) [
      | inl less ↦ absurd (omega (arith, counted_below (min other limit) (min word limit) less, not_below (min other limit) (min other limit) (omega arith), one.once (min other limit), two.once (min other limit)))
      | inr far ↦ far
    ]

pub counted_once : ClaimCountsAreOne
counted_once limit word other hands one two =
    omega (arith, as_far limit word other hands one two, as_far limit other word hands two one, one.done, two.done)
