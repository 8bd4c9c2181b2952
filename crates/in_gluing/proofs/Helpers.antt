-- Small facts.
use Rattle.std.proofs.Common.{◌≡◌, ◌⊎◌, ◌<◌, ◌≤◌, ℕ, zero, suc, List, [], ◌∷◌, map, Option, Some, slice_get, refl, ap, ◌∙◌, inl, inr, arith}
use Rattle.std.proofs.lemmas.Bool.{cases_order}
use Rattle.std.proofs.lemmas.Option.{same_Some}

abbrev pub pick : {P X : Type 0} → Dec P → X → X → X
pick (yes h) a b = a
pick (no h) a b = b

pub pick_yes : {P X : Type 0} (d : Dec P) (a b : X) → P → pick d a b ≡ a
pick_yes (yes h) a b p = refl
pick_yes (no h) a b p = absurd (h p)

pub pick_no : {P X : Type 0} (d : Dec P) (a b : X) → (P → ⊥) → pick d a b ≡ b
pick_no (yes h) a b p = absurd (p h)
pick_no (no h) a b p = refl

pub cases_le : (j w : ℕ) → (j < w) ⊎ (w ≤ j)
cases_le j w = elim (cases_order j w) [ inl e ↦ inr (omega arith) | inr l ↦ elim l [ inl a ↦ inl a | inr b ↦ inr (omega arith) ] ]

pub at_outer : {T Y : Type 0} (xs : List T) (ys : List Y) (g : Y → Option T) → map (λ t. Some t) xs ≡ map g ys → (k : ℕ) (y : Y) → slice_get ys k ≡ Some y → slice_get xs k ≡ g y
at_outer xs [] g e k y h = cc
at_outer [] (z ∷ zs) g e k y h = cc
at_outer (x ∷ xs) (z ∷ zs) g e zero y h =
    let head : Some x ≡ g z = cc in
    let same : z ≡ y = same_Some z y h in
    head ∙ ap g same
at_outer (x ∷ xs) (z ∷ zs) g e (suc k) y h =
    let tail : map (λ t. Some t) xs ≡ map g zs = cc in
    at_outer xs zs g tail k y h
