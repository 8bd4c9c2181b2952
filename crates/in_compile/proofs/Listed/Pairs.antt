-- Properties of each two elements of a list.
use Rattle.std.proofs.Common.{inl, inr, ◌<◌, ◌+◌, ℕ, Bool, true, false, cond, List, [], ◌∷◌, ◌++◌, map, refl, subst, arith}
use Rattle.std.specs.List.{AllByRecursion, enumerate_from, filter}
use Rattle.in_base.specs.Lists.{IsAmong, Pairwise}
use Rattle.in_base.proofs.Among.{among_all, of_map}
use Rattle.in_base.proofs.Each.{all_append, all_of}
use Rattle.in_compile.proofs.Listed.Filtered.{among_filter, among_numbered}

-- a property of pairs that follows from another one for the elements
pub pairs_of : {X : Type 0} (R Q : X → X → Type 0) (xs : List X) → ((x y : X) → IsAmong x xs → IsAmong y xs → R x y → Q x y) → Pairwise R xs → Pairwise Q xs
pairs_of R Q [] to h = tt
pairs_of {X} R Q (x ∷ xs) to h = (first xs (λ y m. to x y (inl refl) (inr m)) h.0, pairs_of R Q xs (λ y z m k. to y z (inr m) (inr k)) h.1)
  where
    first : (ys : List X) → ((y : X) → IsAmong y ys → R x y → Q x y) → AllByRecursion (R x) ys → AllByRecursion (Q x) ys
    first ys to all = all_of (Q x) ys (λ y m. to y m (among_all (R x) ys y all m))

pub pairs_map : {X Y : Type 0} (f : X → Y) (R : Y → Y → Type 0) (xs : List X) → Pairwise (λ x y. R (f x) (f y)) xs → Pairwise R (map f xs)
pairs_map f R [] h = tt
pairs_map {X} {Y} f R (x ∷ xs) h = (each xs h.0, pairs_map f R xs h.1)
  where
    each : (ys : List X) → AllByRecursion (λ y. R (f x) (f y)) ys → AllByRecursion (R (f x)) (map f ys)
    each ys all = all_of (R (f x)) (map f ys) (λ z m. let y = of_map f ys z m in subst (R (f x)) y.2 (among_all (λ y. R (f x) (f y)) ys y.0 all y.1))

pub pairs_append : {X : Type 0} (R : X → X → Type 0) (xs ys : List X) → Pairwise R xs → Pairwise R ys → ((x y : X) → IsAmong x xs → IsAmong y ys → R x y) → Pairwise R (xs ++ ys)
pairs_append R [] ys h g between = g
pairs_append R (x ∷ xs) ys h g between =
    (all_append (R x) xs ys h.0 (all_of (R x) ys (λ y m. between x y (inl refl) m)), pairs_append R xs ys h.1 g (λ z y m k. between z y (inr m) k))

pub pairs_filter : {X : Type 0} (R : X → X → Type 0) (test : X → Bool) (xs : List X) → Pairwise R xs → Pairwise R (filter test xs)
pairs_filter R test [] h = tt
pairs_filter {X} R test (x ∷ xs) h = go (test x) (pairs_filter R test xs h.1)
  where
    go : (b : Bool) → Pairwise R (filter test xs) → Pairwise R (cond b (x ∷ filter test xs) (filter test xs))
    go true later = (all_of (R x) (filter test xs) (λ y m. among_all (R x) xs y h.0 (among_filter test xs y m).0), later)
    go false later = later

-- numbers rise
pub pairs_numbered : {X : Type 0} (e : ℕ) (xs : List X) → Pairwise (λ (v w : ℕ × X). v.0 < w.0) (enumerate_from e xs)
pairs_numbered e [] = tt
pairs_numbered {X} e (x ∷ xs) = (all_of (λ (w : ℕ × X). e < w.0) (enumerate_from (e + 1) xs) (λ w m. let is = (among_numbered (e + 1) xs w.0 w.1 m).1 in omega (arith, is)), pairs_numbered (e + 1) xs)
