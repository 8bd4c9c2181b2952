-- Options that have no value, and lists that are taken from their ends.
use Rattle.std.proofs.Common.{◌≡◌, Option, Some, None, IsSome, List, [], ◌∷◌, ◌++◌, length, refl, sym, ap, ◌∙◌, arith}
use Rattle.std.proofs.lemmas.List.{length-append}

pub none_of : {X : Type 0} (o : Option X) → ((v : X) → o ≡ Some v → ⊥) → o ≡ None
none_of None never = refl
none_of (Some v) never = absurd (never v refl)

-- two lists with an element at their ends are equal only if their fronts and these elements are equal
pub snoc_parts : {X : Type 0} (xs ys : List X) (x y : X) → xs ++ x ∷ [] ≡ ys ++ y ∷ [] → (xs ≡ ys) × (x ≡ y)
snoc_parts [] [] x y e = (refl, (cc))
snoc_parts [] (z ∷ zs) x y e = absurd (omega (arith, ap length e, length-append zs (y ∷ [])))
snoc_parts (w ∷ ws) [] x y e = absurd (omega (arith, ap length e, length-append ws (x ∷ [])))
snoc_parts (w ∷ ws) (z ∷ zs) x y e =
    let tails : ws ++ x ∷ [] ≡ zs ++ y ∷ [] = cc in
    let heads : w ≡ z = cc in
    let rest = snoc_parts ws zs x y tails in (cc (rest.0, heads), rest.1)
