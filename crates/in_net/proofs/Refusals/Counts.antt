-- If each name occurs twice, no three spots have one name.
use Rattle.std.proofs.Common.{◌≡◌, ◌≢◌, ◌⊎◌, inl, inr, ℕ, zero, suc, ◌+◌, ◌<◌, ◌≤◌, List, [], ◌∷◌, length, Option, Some, None, refl, sym, ◌∙◌, ap, arith}
use Rattle.std.proofs.lemmas.List.{get_or-set_other}
use Rattle.std.proofs.lemmas.Bool.{cases_eq, cases_lt}
use Rattle.in_net.specs.declared.reading.TextSpot.{TextSpot}
use Rattle.in_net.specs.declared.counting.Seen.{Seen}
use Rattle.in_net.specs.declared.counting.Seen.TheVariants.{Never, Once, Twice, Often}
use Rattle.in_net.specs.Counting.{name_of, seen_again, none_seen, count_name, counted, counted_from}
use Rattle.in_net.specs.Building.{AreTwice, nth_spot}
use Rattle.in_net.proofs.Wiring.Joins.{length-counted, length-none_seen}
use Rattle.in_net.proofs.Wiring.Ways.{nth_seen}
use Rattle.in_net.proofs.Wiring.Joined.{is_named_or_not, named_again, third_time, nth_none}

-- a name that is seen once, and occurs twice more
second_named : (seen : List Seen) (at m a : ℕ) (o : Option ℕ) → m < length seen → nth_seen seen m ≡ Once a → o ≡ Some m → nth_seen (count_name seen at o) m ≡ Twice
second_named seen at m a o lt is e = named_again seen at m o lt e ∙ ap (λ s. seen_again s at) is

first_named : (seen : List Seen) (at m : ℕ) (o : Option ℕ) → m < length seen → nth_seen seen m ≡ Never → o ≡ Some m → nth_seen (count_name seen at o) m ≡ Once at
first_named seen at m o lt is e = named_again seen at m o lt e ∙ ap (λ s. seen_again s at) is

other_named : (seen : List Seen) (at m : ℕ) (o : Option ℕ) → o ≢ Some m → nth_seen (count_name seen at o) m ≡ nth_seen seen m
other_named seen at m None e = refl
other_named seen at m (Some n) e = get_or-set_other seen n m (seen_again (nth_seen seen n) at) Never (λ f. e (ap Some (sym f)))

-- two more: then it is seen too often
two_more : (at : ℕ) (ss : List TextSpot) (seen : List Seen) (m a i j : ℕ) → m < length seen → nth_seen seen m ≡ Once a → i < j → j < length ss → name_of (nth_spot ss i) ≡ Some m → name_of (nth_spot ss j) ≡ Some m →
    nth_seen (counted_from at ss seen) m ≡ Often
two_more at [] seen m a i j lt is less in_ e f = absurd (omega (arith, in_))
two_more at (s ∷ ss) seen m a zero zero lt is less in_ e f = absurd (omega (arith, less))
two_more at (s ∷ ss) seen m a zero (suc j) lt is less in_ e f =
    let count = length-counted seen at s in
    third_time (at + 1) ss (counted seen at s) m j (omega (arith, lt, count)) (second_named seen at m a (name_of s) lt is e) (omega (arith, in_)) f
two_more at (s ∷ ss) seen m a (suc i) zero lt is less in_ e f = absurd (omega (arith, less))
two_more at (s ∷ ss) seen m a (suc i) (suc j) lt is less in_ e f =
    by_name (λ x. two_more (at + 1) ss (counted seen at s) m a i j (let count = length-counted seen at s in omega (arith, lt, count)) x (omega (arith, less)) (omega (arith, in_)) e f) (is_named_or_not (name_of s) m)
  where
    by_name : (nth_seen (counted seen at s) m ≡ Once a → nth_seen (counted_from (at + 1) ss (counted seen at s)) m ≡ Often) → (name_of s ≡ Some m) ⊎ (name_of s ≢ Some m) → nth_seen (counted_from (at + 1) ss (counted seen at s)) m ≡ Often
    by_name next (inl x) =
        let count = length-counted seen at s in
        third_time (at + 1) ss (counted seen at s) m i (omega (arith, lt, count)) (second_named seen at m a (name_of s) lt is x) (omega (arith, less, in_)) e
    by_name next (inr x) = next (other_named seen at m (name_of s) x ∙ is)

three_more : (at : ℕ) (ss : List TextSpot) (seen : List Seen) (m i j k : ℕ) → m < length seen → nth_seen seen m ≡ Never → i < j → j < k → k < length ss → name_of (nth_spot ss i) ≡ Some m → name_of (nth_spot ss j) ≡ Some m →
    name_of (nth_spot ss k) ≡ Some m → nth_seen (counted_from at ss seen) m ≡ Often
three_more at [] seen m i j k lt is less more in_ e f g = absurd (omega (arith, in_))
three_more at (s ∷ ss) seen m zero zero k lt is less more in_ e f g = absurd (omega (arith, less))
three_more at (s ∷ ss) seen m zero (suc j) zero lt is less more in_ e f g = absurd (omega (arith, more))
three_more at (s ∷ ss) seen m zero (suc j) (suc k) lt is less more in_ e f g =
    let count = length-counted seen at s in
    two_more (at + 1) ss (counted seen at s) m at j k (omega (arith, lt, count)) (first_named seen at m (name_of s) lt is e) (omega (arith, more)) (omega (arith, in_)) f g
three_more at (s ∷ ss) seen m (suc i) zero k lt is less more in_ e f g = absurd (omega (arith, less))
three_more at (s ∷ ss) seen m (suc i) (suc j) zero lt is less more in_ e f g = absurd (omega (arith, more))
three_more at (s ∷ ss) seen m (suc i) (suc j) (suc k) lt is less more in_ e f g =
    by_name (λ x. three_more (at + 1) ss (counted seen at s) m i j k (let count = length-counted seen at s in omega (arith, lt, count)) x (omega (arith, less)) (omega (arith, more)) (omega (arith, in_)) e f g) (is_named_or_not (name_of s) m)
  where
    by_name : (nth_seen (counted seen at s) m ≡ Never → nth_seen (counted_from (at + 1) ss (counted seen at s)) m ≡ Often) → (name_of s ≡ Some m) ⊎ (name_of s ≢ Some m) → nth_seen (counted_from (at + 1) ss (counted seen at s)) m ≡ Often
    by_name next (inl x) =
        let count = length-counted seen at s in
        two_more (at + 1) ss (counted seen at s) m at i j (omega (arith, lt, count)) (first_named seen at m (name_of s) lt is x) (omega (arith, less)) (omega (arith, more, in_)) e f
    by_name next (inr x) = next (other_named seen at m (name_of s) x ∙ is)

module _ (spots : List TextSpot) (names : ℕ) (twice : AreTwice spots (counted_from 0 spots (none_seen names))) where
  no_three : (m i j k : ℕ) → m < names → i < j → j < k → k < length spots → name_of (nth_spot spots i) ≡ Some m → name_of (nth_spot spots j) ≡ Some m → name_of (nth_spot spots k) ≡ Some m → ⊥
  no_three m i j k lt less more in_ e f g =
      let size = length-none_seen names in
      let often = three_more 0 spots (none_seen names) m i j k (omega (arith, lt, size)) (nth_none names m) less more in_ e f g in
      let all = twice k m in_ g in
      absurd (let wrong : Often ≡ Twice = sym often ∙ all in cc)

  -- two other spots of a name are equal
  pub other_is_one : (m i j k : ℕ) → m < names → i < length spots → j < length spots → k < length spots → name_of (nth_spot spots i) ≡ Some m → name_of (nth_spot spots j) ≡ Some m → name_of (nth_spot spots k) ≡ Some m →
      i ≢ j → i ≢ k → j ≡ k
  other_is_one m i j k lt i_in j_in k_in e f g ij ik = by_same (cases_eq j k)
    where
      ordered : (j k : ℕ) → j < length spots → k < length spots → name_of (nth_spot spots j) ≡ Some m → name_of (nth_spot spots k) ≡ Some m → i ≢ j → i ≢ k → j < k → ⊥
      ordered j k j_in k_in f g ij ik less = by_place (cases_lt i j) (cases_lt i k)
        where
          by_place : (i < j) ⊎ (j ≤ i) → (i < k) ⊎ (k ≤ i) → ⊥
          by_place (inl x) y = no_three m i j k lt x less k_in e f g
          by_place (inr x) (inl y) = no_three m j i k lt (omega (arith, x, ij)) y k_in f e g
          by_place (inr x) (inr y) = no_three m j k i lt less (omega (arith, y, ik)) i_in f g e

      by_same : (j ≡ k) ⊎ (j ≢ k) → j ≡ k
      by_same (inl x) = x
      by_same (inr x) = by_order (cases_lt j k)
        where
          by_order : (j < k) ⊎ (k ≤ j) → j ≡ k
          by_order (inl y) = absurd (ordered j k j_in k_in f g ij ik y)
          by_order (inr y) = absurd (ordered k j k_in j_in g f ik ij (omega (arith, x, y)))
