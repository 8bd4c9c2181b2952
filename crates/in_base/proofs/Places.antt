-- The element at a place of a list that grew at its end, of one in which one place was set, of one cut before it, and of a mapped one.
use Rattle.std.proofs.Common.{◌≡◌, ◌≢◌, ◌⊎◌, inl, inr, ◌<◌, ℕ, zero, suc, Option, Some, None, IsSome, List, [], ◌∷◌, ◌++◌, map, option_map, length, drop, slice_get, set, ◌+◌, refl, sym, ap, ◌∙◌, subst, arith}
use Rattle.std.proofs.lemmas.List.{drop_more}
use Rattle.std.proofs.lemmas.Option.{slice_get-map, same_Some, slice_get_within, get_or_from_slice_get}

-- one place has one element
pub some_same : {X : Type 0} (o : Option X) (x y : X) → o ≡ Some x → o ≡ Some y → x ≡ y
some_same o x y h k = cc

pub is_some : {X : Type 0} (o : Option X) (s : X) → o ≡ Some s → IsSome o
is_some o s e = subst IsSome (sym e) refl

pub last_at : {X : Type 0} (xs : List X) (x : X) → slice_get (xs ++ x ∷ []) (length xs) ≡ Some x
last_at [] x = refl
last_at (y ∷ xs) x = last_at xs x

pub kept_at : {X : Type 0} (xs ys : List X) (k : ℕ) (y : X) → slice_get xs k ≡ Some y → slice_get (xs ++ ys) k ≡ Some y
kept_at [] ys k y e = cc
kept_at (x ∷ xs) ys zero y e = e
kept_at (x ∷ xs) ys (suc k) y e = kept_at xs ys k y e

-- the element at a place was there before, or is the new one
pub more_at : {X : Type 0} (xs : List X) (x y : X) (k : ℕ) → slice_get (xs ++ x ∷ []) k ≡ Some y → (slice_get xs k ≡ Some y) ⊎ ((k ≡ length xs) × (x ≡ y))
more_at {X} [] x y zero e = inr (refl, same x y e)
  where
    same : (a b : X) → ◌≡◌ (Some a) (Some b) → a ≡ b
    same a b e = cc
more_at [] x y (suc k) e = cc
more_at (z ∷ xs) x y zero e = inl e
more_at (z ∷ xs) x y (suc k) e = elim (more_at xs x y k e) [ inl h ↦ inl h | inr h ↦ inr (ap suc h.0, h.1) ]

-- the element at the place that was set
pub set_here : {X : Type 0} (xs : List X) (k : ℕ) (x : X) → k < length xs → slice_get (set xs k x) k ≡ Some x
set_here [] k x h = absurd (omega (arith, h))
set_here (y ∷ ys) zero x h = refl
set_here (y ∷ ys) (suc k) x h = set_here ys k x (omega (arith, h))

pub set_there : {X : Type 0} (xs : List X) (k j : ℕ) (x : X) → j ≢ k → slice_get (set xs k x) j ≡ slice_get xs j
set_there [] k j x h = refl
set_there (y ∷ ys) zero zero x h = absurd (h refl)
set_there (y ∷ ys) zero (suc j) x h = refl
set_there (y ∷ ys) (suc k) zero x h = refl
set_there (y ∷ ys) (suc k) (suc j) x h = set_there ys k j x (λ e. h (ap suc e))

-- the rest of a list from an element on begins with it
pub left_from : {X : Type 0} (xs : List X) (k : ℕ) (x : X) → slice_get xs k ≡ Some x → drop k xs ≡ x ∷ drop (k + 1) xs
left_from xs k x e = drop_more xs k x (slice_get_within xs k x e) ∙ ap (λ z. z ∷ drop (k + 1) xs) (get_or_from_slice_get xs k x x e)

-- a list with an element has a last one
pub unsnoc : {X : Type 0} (xs : List X) → 0 < length xs → (ys : List X) × (y : X) × (xs ≡ ys ++ y ∷ [])
unsnoc [] some = absurd (omega (arith, some))
unsnoc (x ∷ []) some = ([], x, refl)
unsnoc (x ∷ y ∷ ys) some = let r = unsnoc (y ∷ ys) (omega arith) in (x ∷ r.0, r.1, ap (λ zs. x ∷ zs) r.2)

-- the element of a mapped list at a place
pub to_mapped : {X Y : Type 0} (f : X → Y) (xs : List X) (i : ℕ) (x : X) → slice_get xs i ≡ Some x → slice_get (map f xs) i ≡ Some (f x)
to_mapped f xs i x e = slice_get-map f xs i ∙ ap (option_map f) e

pub of_mapped : {X Y : Type 0} (f : X → Y) (xs : List X) (i : ℕ) (y : Y) → slice_get (map f xs) i ≡ Some y → (x : X) × (slice_get xs i ≡ Some x) × (f x ≡ y)
of_mapped {X} {Y} f xs i y e = go (slice_get xs i) refl
  where
    go : (o : Option X) → slice_get xs i ≡ o → (x : X) × (slice_get xs i ≡ Some x) × (f x ≡ y)
    go None h = absurd (let z : ◌≡◌ {A = Option Y} None (Some y) = sym (slice_get-map f xs i ∙ ap (option_map f) h) ∙ e in cc)
    go (Some x) h = (x, h, same_Some (f x) y (sym (slice_get-map f xs i ∙ ap (option_map f) h) ∙ e))
