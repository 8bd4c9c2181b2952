-- The relation between the word of a board and the hands of its seats, which holds on any schedule.
use Rattle.std.specs.Prelude.{◌≡◌, ℕ, ◌+◌, ◌<◌, min, Bool, true, nat_lt, ◌==◌, if◌then◌else◌, List, [], ◌∷◌, ◌++◌, length, slice_index, All, sum_by, count_by}
use Rattle.std.specs.List.{flat_map}
use Rattle.std.specs.List.Sorted.{IsStrictlyIncreasing}
use Rattle.atomic_table.specs.Table.{State}
use Rattle.in_claims.specs.declared.hands.Hand.{Hand}
use Rattle.in_claims.specs.declared.hands.Size.{Size}

abbrev pub hand : ℕ → Size → List ℕ → Bool → Hand
hand shares size numbers done = record { shares = shares; size = size; numbers = numbers; done = done }

-- the hand after a claim that found this number in the word
abbrev pub drew : Hand → ℕ → Hand
drew h found = if nat_lt found h.size.limit then hand h.shares h.size (h.numbers ++ found ∷ []) h.done else hand h.shares h.size h.numbers true

-- the number of times that the number was claimed, by all seats together
abbrev pub times_claimed : ℕ → List Hand → ℕ
times_claimed k hands = sum_by (λ h. count_by (λ j. j == k) h.numbers) hands

abbrev pub done_count : List Hand → ℕ
done_count hands = count_by (λ h. h.done) hands

-- The claims of a board of this limit whose word is `word`. Each number below both was claimed once, and no other was; each seat's list rises;
-- as many seats are done as the word is past the limit
pub record AreClaims (limit word : ℕ) (hands : List Hand) : Type 0 where
  pub once : (k : ℕ) → times_claimed k hands ≡ (if nat_lt k (min word limit) then 1 else 0)
  pub rise : All (λ h. IsStrictlyIncreasing h.numbers) hands
  pub done : min word limit + done_count hands ≡ word

-- a hand of a board of this size, with a share
pub record IsHandOf (size : Size) (h : Hand) : Type 0 where
  pub size_is : h.size ≡ size
  pub share : 0 < h.shares

-- the hands in all views of a table
abbrev pub all_hands : List (List Hand) → List Hand
all_hands views = flat_map (λ hands. hands) views

-- the rule of the table of a board: it has one word, which makes the claims of the board with the hands of the seats, and a share for each seat
pub record IsBoardRule (size : Size) (state : State (Unit {0}) (List Hand)) : Type 0 where
  pub one_word : length state.words ≡ 1
  pub claims : AreClaims size.limit (slice_index state.words 0) (all_hands state.views)
  pub shares : sum_by (λ h. h.shares) (all_hands state.views) ≡ size.seats
  pub hands : All (IsHandOf size) (all_hands state.views)

-- the limit of the board of these hands
abbrev pub limit_of : List Hand → ℕ
limit_of [] = 0
limit_of (h ∷ hands) = h.size.limit
