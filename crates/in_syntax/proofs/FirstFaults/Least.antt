-- The earliest of the places with a property.
use Rattle.std.proofs.Common.{◌≡◌, ◌⊎◌, ℕ, ◌≤◌, Bool, true, false, List, [], ◌∷◌, map, Option, Some, None, refl, inl, inr, arith, nat_lt, if◌then◌else◌, ltb-true, ltb-false}
use Rattle.std.specs.List.{AllByRecursion}
use Rattle.in_syntax.specs.declared.places.Place.{Place}
use Rattle.in_base.specs.Lists.{AnyByRecursion}
use Rattle.in_syntax.specs.Refusals.{earlier, earliest}

-- one of the earliest places that have P; none if no place has it
abbrev pub IsLeast : (Place → Type 0) → Option Place → Type 0
IsLeast P None = (q : Place) → P q → ⊥
IsLeast P (Some p) = P p × ((q : Place) → P q → p.from ≤ q.from)

pub least_same : (P Q : Place → Type 0) (o : Option Place) → ((q : Place) → P q → Q q) → ((q : Place) → Q q → P q) → IsLeast P o → IsLeast Q o
least_same P Q None to back none = λ q h. none q (back q h)
least_same P Q (Some p) to back least = (to p least.0, λ q h. least.1 q (back q h))

either_none : (P Q : Place → Type 0) → IsLeast P None → IsLeast Q None → (q : Place) → P q ⊎ Q q → ⊥
either_none P Q nothing other q (inl h) = nothing q h
either_none P Q nothing other q (inr h) = other q h

second_only : (P Q : Place → Type 0) (p : Place) → IsLeast P None → IsLeast Q (Some p) → (q : Place) → P q ⊎ Q q → p.from ≤ q.from
second_only P Q p nothing least q (inl h) = absurd (nothing q h)
second_only P Q p nothing least q (inr h) = least.1 q h

first_only : (P Q : Place → Type 0) (p : Place) → IsLeast P (Some p) → IsLeast Q None → (q : Place) → P q ⊎ Q q → p.from ≤ q.from
first_only P Q p least nothing q (inl h) = least.1 q h
first_only P Q p least nothing q (inr h) = absurd (nothing q h)

below_both : (P Q : Place → Type 0) (p r : Place) → IsLeast P (Some p) → IsLeast Q (Some r) → (n : ℕ) → n ≤ p.from → n ≤ r.from → (q : Place) → P q ⊎ Q q → n ≤ q.from
below_both P Q p r least other n le le' q (inl h) = omega (arith, least.1 q h, le)
below_both P Q p r least other n le le' q (inr h) = omega (arith, other.1 q h, le')

least_by : (P Q : Place → Type 0) (p r : Place) → IsLeast P (Some p) → IsLeast Q (Some r) → (b : Bool) → nat_lt r.from p.from ≡ b → IsLeast (λ q. P q ⊎ Q q) (if b then Some r else Some p)
least_by P Q p r least other true is = (inr other.0, below_both P Q p r least other r.from (omega (arith, ltb-true r.from p.from is)) (omega arith))
least_by P Q p r least other false is = (inl least.0, below_both P Q p r least other p.from (omega arith) (omega (arith, ltb-false r.from p.from is)))

pub least_earlier : (P Q : Place → Type 0) (a b : Option Place) → IsLeast P a → IsLeast Q b → IsLeast (λ q. P q ⊎ Q q) (earlier a b)
least_earlier P Q None None nothing other = either_none P Q nothing other
least_earlier P Q None (Some r) nothing other = (inr other.0, second_only P Q r nothing other)
least_earlier P Q (Some p) None least nothing = (inl least.0, first_only P Q p least nothing)
least_earlier P Q (Some p) (Some r) least other = least_by P Q p r least other (nat_lt r.from p.from) refl

pub shift : (A B C : Type 0) → (A ⊎ B) ⊎ C → A ⊎ (B ⊎ C)
shift A B C (inl (inl a)) = inl a
shift A B C (inl (inr b)) = inr (inl b)
shift A B C (inr c) = inr (inr c)

pub shift_back : (A B C : Type 0) → A ⊎ (B ⊎ C) → (A ⊎ B) ⊎ C
shift_back A B C (inl a) = inl (inl a)
shift_back A B C (inr (inl b)) = inl (inr b)
shift_back A B C (inr (inr c)) = inr c

pub left : (A : Type 0) → A ⊎ ⊥ → A
left A (inl a) = a
left A (inr h) = absurd h

-- of a place found and of those that each of a list has, the earliest
pub least_earliest : {X : Type 0} (f : X → Option Place) (P : X → Place → Type 0) → ((x : X) → IsLeast (P x) (f x)) → (Q : Place → Type 0) (found : Option Place) → IsLeast Q found →
    (xs : List X) → IsLeast (λ q. Q q ⊎ AnyByRecursion (λ x. P x q) xs) (earliest found (map f xs))
least_earliest f P each Q found least [] = least_same Q (λ q. Q q ⊎ ⊥) found (λ q h. inl h) (λ q h. left (Q q) h) least
least_earliest f P each Q found least (x ∷ xs) =
    least_same (λ q. (Q q ⊎ P x q) ⊎ AnyByRecursion (λ y. P y q) xs) (λ q. Q q ⊎ AnyByRecursion (λ y. P y q) (x ∷ xs)) (earliest (earlier found (f x)) (map f xs))
    (λ q h. shift (Q q) (P x q) (AnyByRecursion (λ y. P y q) xs) h)
    (λ q h. shift_back (Q q) (P x q) (AnyByRecursion (λ y. P y q) xs) h)
    (least_earliest f P each (λ q. Q q ⊎ P x q) (earlier found (f x)) (least_earlier Q (P x) found (f x) least (each x)) xs)

right : (A : Type 0) → ⊥ ⊎ A → A
right A (inl h) = absurd h
right A (inr a) = a

-- the same where nothing is found before
pub least_of_all : {X : Type 0} (f : X → Option Place) (P : X → Place → Type 0) → ((x : X) → IsLeast (P x) (f x)) →
    (xs : List X) → IsLeast (λ q. AnyByRecursion (λ x. P x q) xs) (earliest None (map f xs))
least_of_all f P each xs =
    least_same (λ q. ⊥ ⊎ AnyByRecursion (λ x. P x q) xs) (λ q. AnyByRecursion (λ x. P x q) xs) (earliest None (map f xs))
    (λ q h. right (AnyByRecursion (λ x. P x q) xs) h) (λ q h. inr h)
    (least_earliest f P each (λ q. ⊥) None (λ q h. h) xs)

-- if the earlier of two places is none, both are none
pub earlier_none : (a b : Option Place) → earlier a b ≡ None → (a ≡ None) × (b ≡ None)
earlier_none None b e = (refl, e)
earlier_none (Some p) None e = cc
earlier_none (Some p) (Some q) e = absurd (some_by p q (nat_lt q.from p.from) e)
  where
    some_by : (p q : Place) (b : Bool) → let o : Option Place = None in (if b then Some q else Some p) ≡ o → ⊥
    some_by p q true e = cc
    some_by p q false e = cc

pub earliest_none : {X : Type 0} (f : X → Option Place) (P : X → Type 0) → ((x : X) → f x ≡ None → P x) → (found : Option Place) (xs : List X) →
    earliest found (map f xs) ≡ None → (found ≡ None) × AllByRecursion P xs
earliest_none f P each found [] e = (e, tt)
earliest_none f P each found (x ∷ xs) e =
    let rest = earliest_none f P each (earlier found (f x)) xs e in
    let both = earlier_none found (f x) rest.0 in
    (both.0, (each x both.1, rest.1))
