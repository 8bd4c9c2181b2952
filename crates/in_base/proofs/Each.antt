-- Properties of each element, or of one, of joined and mapped lists.
use Rattle.std.proofs.Common.{◌≡◌, ◌⊎◌, inl, inr, ℕ, zero, suc, ◌<◌, List, [], ◌∷◌, ◌++◌, map, length, Some, slice_get, refl, subst, arith}
use Rattle.std.specs.List.{AllByRecursion}
use Rattle.std.proofs.lemmas.Option.{none-some, same_Some}
use Rattle.in_base.specs.Lists.{AnyByRecursion, IsAmong}

-- ---- each element

pub all_of : {X : Type 0} (P : X → Type 0) (xs : List X) → ((x : X) → IsAmong x xs → P x) → AllByRecursion P xs
all_of P [] f = tt
all_of P (x ∷ xs) f = (f x (inl refl), all_of P xs (λ y h. f y (inr h)))

pub all_map : {X : Type 0} (P Q : X → Type 0) → ((x : X) → P x → Q x) → (xs : List X) → AllByRecursion P xs → AllByRecursion Q xs
all_map P Q f [] h = tt
all_map P Q f (x ∷ xs) h = (f x h.0, all_map P Q f xs h.1)

pub all_append : {X : Type 0} (P : X → Type 0) (xs ys : List X) → AllByRecursion P xs → AllByRecursion P ys → AllByRecursion P (xs ++ ys)
all_append P [] ys h k = k
all_append P (x ∷ xs) ys h k = (h.0, all_append P xs ys h.1 k)

pub all_left : {X : Type 0} (P : X → Type 0) (xs ys : List X) → AllByRecursion P (xs ++ ys) → AllByRecursion P xs
all_left P [] ys h = tt
all_left P (x ∷ xs) ys h = (h.0, all_left P xs ys h.1)

pub all_right : {X : Type 0} (P : X → Type 0) (xs ys : List X) → AllByRecursion P (xs ++ ys) → AllByRecursion P ys
all_right P [] ys h = h
all_right P (x ∷ xs) ys h = all_right P xs ys h.1

pub all_at : {X : Type 0} (P : X → Type 0) (xs : List X) (i : ℕ) (x : X) → AllByRecursion P xs → slice_get xs i ≡ Some x → P x
all_at P [] i x h e = absurd (none-some x e)
all_at P (y ∷ ys) zero x h e = subst P (same_Some y x e) h.0
all_at P (y ∷ ys) (suc i) x h e = all_at P ys i x h.1 e

-- ---- one element

pub any_of : {X : Type 0} (P Q : X → Type 0) → ((x : X) → P x → Q x) → (xs : List X) → AnyByRecursion P xs → AnyByRecursion Q xs
any_of P Q to [] h = h
any_of P Q to (x ∷ xs) (inl h) = inl (to x h)
any_of P Q to (x ∷ xs) (inr h) = inr (any_of P Q to xs h)

pub any_either : {X : Type 0} (P Q : X → Type 0) (xs : List X) → AnyByRecursion (λ x. P x ⊎ Q x) xs → AnyByRecursion P xs ⊎ AnyByRecursion Q xs
any_either P Q [] h = absurd h
any_either P Q (x ∷ xs) (inl (inl h)) = inl (inl h)
any_either P Q (x ∷ xs) (inl (inr h)) = inr (inl h)
any_either P Q (x ∷ xs) (inr h) = elim (any_either P Q xs h) [ inl a ↦ inl (inr a) | inr b ↦ inr (inr b) ]

pub any_mapped : {X Y : Type 0} (f : X → Y) (P : Y → Type 0) (xs : List X) → AnyByRecursion P (map f xs) → AnyByRecursion (λ x. P (f x)) xs
any_mapped f P [] h = h
any_mapped f P (x ∷ xs) (inl h) = inl h
any_mapped f P (x ∷ xs) (inr h) = inr (any_mapped f P xs h)

pub any_to_map : {X Y : Type 0} (f : X → Y) (P : Y → Type 0) (xs : List X) → AnyByRecursion (λ x. P (f x)) xs → AnyByRecursion P (map f xs)
any_to_map f P [] h = h
any_to_map f P (x ∷ xs) (inl h) = inl h
any_to_map f P (x ∷ xs) (inr h) = inr (any_to_map f P xs h)

pub any_in_end : {X : Type 0} (P : X → Type 0) (xs : List X) (y : X) → P y → AnyByRecursion P (xs ++ y ∷ [])
any_in_end P [] y h = inl h
any_in_end P (x ∷ xs) y h = inr (any_in_end P xs y h)

pub any_in_front : {X : Type 0} (P : X → Type 0) (xs : List X) (y : X) → AnyByRecursion P xs → AnyByRecursion P (xs ++ y ∷ [])
any_in_front P [] y h = absurd h
any_in_front P (x ∷ xs) y (inl h) = inl h
any_in_front P (x ∷ xs) y (inr h) = inr (any_in_front P xs y h)

pub any_before_end : {X : Type 0} (P : X → Type 0) (xs : List X) (y : X) → AnyByRecursion P (xs ++ y ∷ []) → AnyByRecursion P xs ⊎ P y
any_before_end P [] y (inl h) = inr h
any_before_end P [] y (inr h) = absurd h
any_before_end P (x ∷ xs) y (inl h) = inl (inl h)
any_before_end P (x ∷ xs) y (inr h) = elim (any_before_end P xs y h) [ inl a ↦ inl (inr a) | inr b ↦ inr b ]

-- ---- elements

pub at_index : {X : Type 0} (xs : List X) (i : ℕ) → i < length xs → (x : X) × (slice_get xs i ≡ Some x)
at_index [] i lt = absurd (omega (arith, lt))
at_index (x ∷ xs) zero lt = (x, refl)
at_index (x ∷ xs) (suc i) lt = at_index xs i (omega (arith, lt))
