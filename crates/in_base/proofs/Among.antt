-- The elements of joined and mapped lists.
use Rattle.std.proofs.Common.{◌≡◌, ◌⊎◌, inl, inr, ℕ, zero, suc, List, [], ◌∷◌, ◌++◌, map, Some, slice_get, refl, sym, ap, subst}
use Rattle.std.specs.List.{AllByRecursion, flat_map}
use Rattle.std.proofs.lemmas.Option.{same_Some}
use Rattle.in_base.specs.Lists.{IsAmong}

pub among_left : {X : Type 0} (x : X) (xs ys : List X) → IsAmong x xs → IsAmong x (xs ++ ys)
among_left x [] ys h = absurd h
among_left x (z ∷ xs) ys (inl e) = inl e
among_left x (z ∷ xs) ys (inr h) = inr (among_left x xs ys h)

pub among_right : {X : Type 0} (x : X) (xs ys : List X) → IsAmong x ys → IsAmong x (xs ++ ys)
among_right x [] ys h = h
among_right x (z ∷ xs) ys h = inr (among_right x xs ys h)

pub among_either : {X : Type 0} (x : X) (xs ys : List X) → IsAmong x (xs ++ ys) → IsAmong x xs ⊎ IsAmong x ys
among_either x [] ys h = inr h
among_either x (z ∷ xs) ys (inl e) = inl (inl e)
among_either x (z ∷ xs) ys (inr h) = elim (among_either x xs ys h) [ inl a ↦ inl (inr a) | inr b ↦ inr b ]

pub in_flat : {X Y : Type 0} (f : X → List Y) (xs : List X) (x : X) (y : Y) → IsAmong x xs → IsAmong y (f x) → IsAmong y (flat_map f xs)
in_flat f [] x y h k = absurd h
in_flat f (z ∷ xs) x y (inl e) k = among_left y (f z) (flat_map f xs) (subst (λ x. IsAmong y (f x)) (sym e) k)
in_flat f (z ∷ xs) x y (inr h) k = among_right y (f z) (flat_map f xs) (in_flat f xs x y h k)

pub of_flat : {X Y : Type 0} (f : X → List Y) (xs : List X) (y : Y) → IsAmong y (flat_map f xs) → (x : X) × IsAmong x xs × IsAmong y (f x)
of_flat f [] y h = absurd h
of_flat f (z ∷ xs) y h = elim (among_either y (f z) (flat_map f xs) h) [ inl a ↦ (z, inl refl, a) | inr b ↦ let r = of_flat f xs y b in (r.0, inr r.1, r.2) ]

pub in_map : {X Y : Type 0} (f : X → Y) (xs : List X) (x : X) → IsAmong x xs → IsAmong (f x) (map f xs)
in_map f [] x h = absurd h
in_map f (z ∷ xs) x (inl e) = inl (ap f e)
in_map f (z ∷ xs) x (inr h) = inr (in_map f xs x h)

pub of_map : {X Y : Type 0} (f : X → Y) (xs : List X) (y : Y) → IsAmong y (map f xs) → (x : X) × IsAmong x xs × (f x ≡ y)
of_map f [] y h = absurd h
of_map f (z ∷ xs) y (inl e) = (z, inl refl, e)
of_map f (z ∷ xs) y (inr h) = let r = of_map f xs y h in (r.0, inr r.1, r.2)

pub among_at : {X : Type 0} (xs : List X) (i : ℕ) (x : X) → slice_get xs i ≡ Some x → IsAmong x xs
among_at [] i x e = cc
among_at (z ∷ xs) zero x e = inl (same_Some z x e)
among_at (z ∷ xs) (suc i) x e = inr (among_at xs i x e)

pub among_all : {X : Type 0} (P : X → Type 0) (xs : List X) (x : X) → AllByRecursion P xs → IsAmong x xs → P x
among_all P [] x h k = absurd k
among_all P (z ∷ xs) x h (inl e) = subst P e h.0
among_all P (z ∷ xs) x h (inr k) = among_all P xs x h.1 k
