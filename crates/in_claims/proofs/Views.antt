-- The hands in all views of a table after one view changes: their sums, and the properties of each. And a view that has as many hands as all.
use Rattle.std.proofs.Common.{◌≡◌, ℕ, zero, suc, ◌+◌, ◌≤◌, ◌<◌, List, [], ◌∷◌, ◌++◌, length, set, get_or, refl, sym, ap, subst, ◌∙◌, arith, All}
use Rattle.std.specs.List.{sum_by}
use Rattle.std.proofs.lemmas.List.{append-nil, length-append, get_or_append_left, get_or-append-add, nil_from_length}
use Rattle.std.proofs.lemmas.List.Elements.{All-nil, All-cons, All-head, All-tail, All-append, All-set}
use Rattle.std.proofs.lemmas.List.Sums.{sum_by-cons, sum_by-append, sum_by-set}
use mathlib.Core.Option.{some, some-injective, some-ne-none}
use lib.ListN.{get_elem?}
use Rattle.in_claims.specs.Rule.{all_hands}
use Rattle.in_claims.specs.declared.hands.Hand.{Hand}
use Rattle.in_claims.proofs.Sums.{at_get}

sum_of_all : (f : Hand → ℕ) (views : List (List Hand)) → sum_by f (all_hands views) ≡ sum_by (λ hands. sum_by f hands) views
sum_of_all f [] = refl
sum_of_all f (x ∷ xs) =
    omega (arith, sum_by-append f x (all_hands xs), sum_by-cons (λ (hands : List Hand). sum_by f hands) x xs, sum_of_all f xs)

all_of_each : (P : Hand → Type 0) (views : List (List Hand)) → All (All P) views → All P (all_hands views)
all_of_each P [] each = All-nil P
all_of_each P (x ∷ xs) each =
    All-append P x (all_hands xs) (All-head (All P) x xs each) (all_of_each P xs (All-tail (All P) x xs each))

front : (P : Hand → Type 0) (xs ys : List Hand) → All P (xs ++ ys) → All P xs
front P xs ys all k d lt = subst P (get_or_append_left xs ys d k lt) (all k d (omega (arith, lt, length-append xs ys)))

back : (P : Hand → Type 0) (xs ys : List Hand) → All P (xs ++ ys) → All P ys
back P xs ys all k d lt = subst P (get_or-append-add xs ys k d) (all (length xs + k) d (omega (arith, lt, length-append xs ys)))

each_of_all : (P : Hand → Type 0) (views : List (List Hand)) → All P (all_hands views) → All (All P) views
each_of_all P [] all = All-nil (All P)
each_of_all P (x ∷ xs) all =
    All-cons (All P) x xs (front P x (all_hands xs) all) (each_of_all P xs (back P x (all_hands xs) all))

-- a sum over all hands after this view changes
pub change : (f : Hand → ℕ) (views : List (List Hand)) (id : ℕ) (old new : List Hand) → get_elem? views id ≡ some old →
    sum_by f (all_hands (set views id new)) + sum_by f old ≡ sum_by f (all_hands views) + sum_by f new
change f views id old new at =
    let t = at_get views id old at in
    let of : List Hand → ℕ = λ hands. sum_by f hands in
    omega (arith, sum_of_all f (set views id new), sum_of_all f views, sum_by-set of views id new old t.0, ap of t.1)

pub all_changed : (P : Hand → Type 0) (views : List (List Hand)) (id : ℕ) (new : List Hand) → All P new → All P (all_hands views) → All P (all_hands (set views id new))
all_changed P views id new of all = all_of_each P (set views id new) (All-set (All P) views id new of (each_of_all P views all))

pub all_at : (P : Hand → Type 0) (views : List (List Hand)) (id : ℕ) (d : List Hand) → id < length views → All P (all_hands views) → All P (get_or views id d)
all_at P views id d inside all = each_of_all P views all id d inside

pub all_in_view : (P : Hand → Type 0) (views : List (List Hand)) (id : ℕ) (old : List Hand) → get_elem? views id ≡ some old → All P (all_hands views) → All P old
all_in_view P views id old at all = let t = at_get views id old at in subst (All P) t.1 (all_at P views id old t.0 all)

-- a view has at most as many hands as all views together
within : (views : List (List Hand)) (id : ℕ) (old : List Hand) → get_elem? views id ≡ some old → length old ≤ length (all_hands views)
within [] id old at = absurd (some-ne-none old (sym at))
within (x ∷ xs) zero old at = let same = ap (λ (l : List Hand). length l) (some-injective x old at) in omega (arith, same, length-append x (all_hands xs))
within (x ∷ xs) (suc id) old at = let rest = within xs id old at in omega (arith, rest, length-append x (all_hands xs))

-- a view with as many hands as all has all of them
pub alone : (views : List (List Hand)) (id : ℕ) (old : List Hand) → get_elem? views id ≡ some old → length (all_hands views) ≤ length old → all_hands views ≡ old
alone [] id old at few = absurd (some-ne-none old (sym at))
alone (x ∷ xs) zero old at few =
    let same = some-injective x old at in
    let none : all_hands xs ≡ [] = nil_from_length (all_hands xs) (omega (arith, few, ap (λ (l : List Hand). length l) same, length-append x (all_hands xs))) in
    ap (λ l. x ++ l) none ∙ append-nil x ∙ same
alone (x ∷ xs) (suc id) old at few =
    let rest = within xs id old at in
    let none : x ≡ [] = nil_from_length x (omega (arith, few, rest, length-append x (all_hands xs))) in
    ap (λ l. l ++ all_hands xs) none ∙ alone xs id old at (omega (arith, few, length-append x (all_hands xs)))
