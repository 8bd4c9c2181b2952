-- Sums over lists: two terms of one sum, a positive term of a positive sum, larger terms, and the place of a number that is counted.
use Rattle.std.proofs.Common.{◌≡◌, ◌≢◌, inl, inr, ℕ, zero, suc, ◌+◌, ◌≤◌, ◌<◌, Bool, true, false, cond, List, [], ◌∷◌, length, get_or, take, sym, ap, arith, eqb, nat_lt, count_by, All}
use Rattle.std.specs.List.{sum_by}
use Rattle.std.proofs.lemmas.Bool.{cases_lt}
use Rattle.std.proofs.lemmas.List.{get_or-take, length-take-le}
use Rattle.std.proofs.lemmas.List.Sums.{sum_by-cons, sum_by_more_le, get_or-le-sum_by}
use Rattle.std.proofs.lemmas.Bool.Decides.{nat_tests}
use mathlib.Core.Option.{some, some-injective, some-ne-none}
use lib.ListN.{get_elem?}

-- a list read by `get_elem?` is read by `get_or`
pub at_get : {V : Type 0} (l : List V) (i : ℕ) (v : V) → get_elem? l i ≡ some v → (i < length l) × (get_or l i v ≡ v)
at_get [] i v e = absurd (some-ne-none v (sym e))
at_get (x ∷ xs) zero v e = (omega arith, some-injective x v e)
at_get (x ∷ xs) (suc i) v e = let t = at_get xs i v e in (omega (arith, t.0), t.1)

-- the value of a test that is counted
pub at_most : (b : Bool) (n : ℕ) → cond b n 0 ≤ n
at_most true n = omega arith
at_most false n = omega arith

-- two terms are within the sum
two_in_order : {V : Type 0} (f : V → ℕ) (xs : List V) (i j : ℕ) (d : V) → i < j → j < length xs → f (get_or xs i d) + f (get_or xs j d) ≤ sum_by f xs
two_in_order f xs i j d lt inside =
    let long : length (take j xs) ≡ j = length-take-le j xs (omega arith) in
    let front : f (get_or (take j xs) i d) ≤ sum_by f (take j xs) = get_or-le-sum_by f (take j xs) i d (omega arith) in
    let same : get_or (take j xs) i d ≡ get_or xs i d = get_or-take j xs i d lt in
    omega (arith, sum_by_more_le f xs j d inside, front, ap f same)

pub two_of_sum : {V : Type 0} (f : V → ℕ) (xs : List V) (i j : ℕ) (d : V) → i ≢ j → i < length xs → j < length xs → f (get_or xs i d) + f (get_or xs j d) ≤ sum_by f xs
two_of_sum f xs i j d apart below above =
    elim (cases_lt i j) [ inl lt ↦ two_in_order f xs i j d lt above | inr ge ↦ let back = two_in_order f xs j i d (omega arith) below in omega arith ]

-- a positive sum has a positive term
pub some_term : {V : Type 0} (f : V → ℕ) (xs : List V) (d : V) → 0 < sum_by f xs → (i : ℕ) × (i < length xs) × (0 < f (get_or xs i d))
some_term f [] d h = absurd (omega arith)
some_term f (x ∷ xs) d h =
    elim (cases_lt 0 (f x)) [
      | inl lt ↦ (0, omega arith, lt)
      | inr none ↦ let t = some_term f xs d (omega (arith, sum_by-cons f x xs)) in (suc t.0, (let below = t.1 in omega arith), t.2)
    ]

-- if each term of f is within that of g, so is the sum
pub sum_le : {V : Type 0} (f g : V → ℕ) (xs : List V) → All (λ v. f v ≤ g v) xs → sum_by f xs ≤ sum_by g xs
sum_le f g [] each = omega arith
sum_le f g (x ∷ xs) each =
    omega (arith, sum_by-cons f x xs, sum_by-cons g x xs, each 0 x (omega arith), sum_le f g xs (λ k d lt. each (suc k) d (omega arith)))

-- a number is counted if and only if it is in the list
pub counted_at : (xs : List ℕ) (k : ℕ) → 0 < count_by (λ j. eqb j k) xs → (i : ℕ) × (i < length xs) × (get_or xs i 0 ≡ k)
counted_at xs k h = let t = some_term (λ j. cond (eqb j k) 1 0) xs 0 h in (t.0, t.1, one_is (get_or xs t.0 0) k t.2)
  where
    one_is : (j k : ℕ) → 0 < cond (eqb j k) 1 0 → j ≡ k
    one_is j k h = grind (arith, nat_tests)

pub counts_one : (k : ℕ) → 1 ≤ cond (eqb k k) 1 0
counts_one k = grind (arith, nat_tests)

pub stands_counted : (xs : List ℕ) (i : ℕ) → i < length xs → 1 ≤ count_by (λ j. eqb j (get_or xs i 0)) xs
stands_counted xs i inside =
    omega (arith, counts_one (get_or xs i 0), get_or-le-sum_by (λ j. cond (eqb j (get_or xs i 0)) 1 0) xs i 0 inside)

-- a number that is counted as one below n is below it
pub if_below : (k n : ℕ) → 1 ≤ cond (nat_lt k n) 1 0 → k < n
if_below k n h = grind (arith, nat_tests)

-- a list is at most as long as the sum of positive terms over it
pub length_le_sum : {V : Type 0} (f : V → ℕ) (xs : List V) → All (λ v. 0 < f v) xs → length xs ≤ sum_by f xs
length_le_sum f [] each = omega arith
length_le_sum f (x ∷ xs) each =
    omega (arith, sum_by-cons f x xs, each 0 x (omega arith), length_le_sum f xs (λ k d lt. each (suc k) d (omega arith)))
