-- Cycles as lists: with another beginning, renamed, joined.
use Rattle.std.proofs.Common.{◌≡◌, ◌≢◌, List, [], ◌∷◌, ◌++◌, map, sym, subst, ap, append_assoc, append-nil}
use Rattle.std.specs.List.{AllByRecursion}
use Rattle.in_base.specs.Graphs.{Passage, AreApart}
use Rattle.in_interaction.specs.Pieces.{AreDifferent, renamed}
use Rattle.in_base.specs.Lists.{Pairwise}
use Rattle.in_base.proofs.Each.{all_append}

module _ {X : Type 0} (R : X → X → Type 0) (back : (x y : X) → R x y → R y x) where
  put_last : (x : X) (xs : List X) → AllByRecursion (R x) xs → Pairwise R xs → Pairwise R (xs ++ x ∷ [])
  put_last x [] h all = (tt, tt)
  put_last x (y ∷ ys) h all = (all_append (R y) ys (x ∷ []) all.0 (back x y h.0, tt), put_last x ys h.1 all.1)

  pairs_turned : (xs ys : List X) → Pairwise R (xs ++ ys) → Pairwise R (ys ++ xs)
  pairs_turned [] ys h = subst (Pairwise R) (sym (append-nil ys)) h
  pairs_turned (x ∷ xs) ys h =
      subst (Pairwise R) (append_assoc ys (x ∷ []) xs)
      (pairs_turned xs (ys ++ x ∷ []) (subst (Pairwise R) (append_assoc xs ys (x ∷ [])) (put_last x (xs ++ ys) h.0 h.1)))

pub apart_turned : {V : Type 0} (xs ys : List (Passage V)) → AreApart (xs ++ ys) → AreApart (ys ++ xs)
apart_turned xs ys h = pairs_turned (λ p q. p.node ≢ q.node) (λ p q d e. d (sym e)) xs ys h

pub different_turned : {X : Type 0} (xs ys : List X) → AreDifferent (xs ++ ys) → AreDifferent (ys ++ xs)
different_turned xs ys h = pairs_turned (λ x y. x ≢ y) (λ x y d e. d (sym e)) xs ys h

pub different_join : {X : Type 0} (xs ys : List X) → AreDifferent xs → AreDifferent ys → AllByRecursion (λ x. AllByRecursion (λ y. x ≢ y) ys) xs → AreDifferent (xs ++ ys)
different_join [] ys h k cross = k
different_join (x ∷ xs) ys h k cross = (all_append (λ y. x ≢ y) xs ys h.0 cross.0, different_join xs ys h.1 k cross.1)

-- agents whose names are different are different
pub apart_unnamed : {V C : Type 0} (name : V → C) (ps : List (Passage V)) → AreApart (map (renamed name) ps) → AreApart ps
apart_unnamed name [] h = tt
apart_unnamed {V} {C} name (p ∷ ps) h = (others ps h.0, apart_unnamed name ps h.1)
  where
    others : (qs : List (Passage V)) → AllByRecursion (λ q. name p.node ≢ q.node) (map (renamed name) qs) → AllByRecursion (λ q. p.node ≢ q.node) qs
    others [] h = tt
    others (q ∷ qs) h = ((λ e. h.0 (ap name e)), others qs h.1)

pub apart_after : {V : Type 0} (xs ys : List (Passage V)) → AreApart (xs ++ ys) → AreApart ys
apart_after [] ys h = h
apart_after (x ∷ xs) ys h = apart_after xs ys h.1

pub apart_named : {V C : Type 0} (name : V → C) → ((v w : V) → name v ≡ name w → v ≡ w) → (ps : List (Passage V)) → AreApart ps → AreApart (map (renamed name) ps)
apart_named name one [] h = tt
apart_named {V} {C} name one (p ∷ ps) h = (others ps h.0, apart_named name one ps h.1)
  where
    others : (qs : List (Passage V)) → AllByRecursion (λ q. p.node ≢ q.node) qs → AllByRecursion (λ q. name p.node ≢ q.node) (map (renamed name) qs)
    others [] h = tt
    others (q ∷ qs) h = ((λ e. h.0 (one p.node q.node e)), others qs h.1)
