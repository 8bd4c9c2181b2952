-- A search through a list for the earliest place, one element at a time.
use Rattle.std.proofs.Common.{◌≡◌, ◌<◌, ◌≤◌, ◌+◌, [], ◌∷◌, ℕ, Bool, true, false, List, Option, Some, None, if◌then◌else◌, nat_lt, drop, map, length, get_or, refl, sym, ap, ◌∙◌, arith}
use Rattle.std.proofs.lemmas.Bool.{ltb-true, ltb-false, lt-ltb, le-ltb}
use Rattle.std.proofs.lemmas.List.{drop_more, drop_all}
use Rattle.in_syntax.specs.Refusals.{earlier, earliest}
use Rattle.in_syntax.specs.declared.places.Place.{Place}

-- one more element is looked at
pub one_more : {X : Type 0} (f : X → Option Place) (xs : List X) (i : ℕ) (x : X) (found next whole : Option Place) → i < length xs → x ≡ get_or xs i x → next ≡ earlier found (f x) →
    earliest found (map f (drop i xs)) ≡ whole → earliest next (map f (drop (i + 1) xs)) ≡ whole
one_more {X} f xs i x found next whole lt is now before =
    let cut : drop i xs ≡ x ∷ drop (i + 1) xs = drop_more xs i x lt ∙ ap (λ (y : X). y ∷ drop (i + 1) xs) (sym is) in
    ap (λ (p : Option Place). earliest p (map f (drop (i + 1) xs))) now ∙ ap (λ (ys : List X). earliest found (map f ys)) (sym cut) ∙ before

-- all are looked at
pub all_done : {X : Type 0} (f : X → Option Place) (xs : List X) (i : ℕ) (found whole : Option Place) → length xs ≤ i → earliest found (map f (drop i xs)) ≡ whole → found ≡ whole
all_done {X} f xs i found whole past before = ap (λ (ys : List X). earliest found (map f ys)) (sym (drop_all i xs past)) ∙ before

-- ---- after something was found

some_earlier : (p q r : Place) (b c : Bool) → nat_lt q.from p.from ≡ b → nat_lt r.from q.from ≡ c →
    earlier (if b then Some q else Some p) (Some r) ≡ earlier (Some p) (if c then Some r else Some q)
some_earlier p q r true true qp rq = ap (λ b. if b then Some r else Some q) rq ∙ sym (ap (λ b. if b then Some r else Some p) (lt-ltb r.from p.from (omega (arith, ltb-true q.from p.from qp, ltb-true r.from q.from rq))))
some_earlier p q r true false qp rq = ap (λ b. if b then Some r else Some q) rq ∙ sym (ap (λ b. if b then Some q else Some p) qp)
some_earlier p q r false true qp rq = refl
some_earlier p q r false false qp rq =
    ap (λ b. if b then Some r else Some p) (le-ltb r.from p.from (omega (arith, ltb-false q.from p.from qp, ltb-false r.from q.from rq))) ∙ sym (ap (λ b. if b then Some q else Some p) qp)

-- the earliest of three places doesn't depend on which two are compared first
pub earlier_assoc : (a b c : Option Place) → earlier (earlier a b) c ≡ earlier a (earlier b c)
earlier_assoc None b c = refl
earlier_assoc (Some p) None c = refl
earlier_assoc (Some p) (Some q) None = with_none p q (nat_lt q.from p.from)
  where
    with_none : (p q : Place) (b : Bool) → earlier (if b then Some q else Some p) None ≡ (if b then Some q else Some p)
    with_none p q true = refl
    with_none p q false = refl
earlier_assoc (Some p) (Some q) (Some r) = some_earlier p q r (nat_lt q.from p.from) (nat_lt r.from q.from) refl refl

pub earliest_from : (a b : Option Place) (ps : List (Option Place)) → earliest (earlier a b) ps ≡ earlier a (earliest b ps)
earliest_from a b [] = refl
earliest_from a b (p ∷ ps) = ap (λ o. earliest o ps) (earlier_assoc a b p) ∙ earliest_from a (earlier b p) ps
