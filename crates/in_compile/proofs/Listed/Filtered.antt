-- The elements of a list that pass a test, one by one and all at once.
use Rattle.std.proofs.Common.{◌≡◌, inl, inr, ◌<◌, ◌+◌, ℕ, zero, suc, Bool, true, false, cond, List, [], ◌∷◌, ◌++◌, Some, slice_get, append_assoc, refl, sym, ap, subst, ◌∙◌, arith}
use Rattle.std.specs.List.{filter, enumerate_from}
use Rattle.std.proofs.lemmas.Option.{none-some, same_Some}
use Rattle.in_base.specs.Lists.{IsAmong}

-- ---- one by one

-- an element is tested, and is added to those before it if it passes
module _ {X : Type 0} (test : X → Bool) (x : X) (xs before all : List X) (so_far : before ++ filter test (x ∷ xs) ≡ all) where
  pub passes : (after : List X) → test x ≡ true → after ≡ before ++ x ∷ [] → after ++ filter test xs ≡ all
  passes after does is =
      ap (λ (zs : List X). zs ++ filter test xs) is ∙ append_assoc before (x ∷ []) (filter test xs)
      ∙ ap (λ (b : Bool). before ++ cond b (x ∷ filter test xs) (filter test xs)) (sym does) ∙ so_far

  pub fails : (after : List X) → test x ≡ false → after ≡ before → after ++ filter test xs ≡ all
  fails after lacks is =
      ap (λ (zs : List X). zs ++ filter test xs) is ∙ ap (λ (b : Bool). before ++ cond b (x ∷ filter test xs) (filter test xs)) (sym lacks) ∙ so_far

-- ---- all at once

pub among_filter : {X : Type 0} (test : X → Bool) (xs : List X) (x : X) → IsAmong x (filter test xs) → IsAmong x xs × (test x ≡ true)
among_filter test [] x h = absurd h
among_filter {X} test (y ∷ ys) x h = go (test y) refl (among_filter test ys x) h
  where
    go : (b : Bool) → test y ≡ b → (IsAmong x (filter test ys) → IsAmong x ys × (test x ≡ true)) → IsAmong x (cond b (y ∷ filter test ys) (filter test ys)) → IsAmong x (y ∷ ys) × (test x ≡ true)
    go true is later (inl same) = (inl same, ap test (sym same) ∙ is)
    go true is later (inr h) = (inr (later h).0, (later h).1)
    go false is later h = (inr (later h).0, (later h).1)

pub in_filter : {X : Type 0} (test : X → Bool) (xs : List X) (x : X) → IsAmong x xs → test x ≡ true → IsAmong x (filter test xs)
in_filter test [] x h does = absurd h
in_filter {X} test (y ∷ ys) x h does = go (test y) refl (λ g. in_filter test ys x g does) h
  where
    go : (b : Bool) → test y ≡ b → (IsAmong x ys → IsAmong x (filter test ys)) → IsAmong x (y ∷ ys) → IsAmong x (cond b (y ∷ filter test ys) (filter test ys))
    go true is later (inl same) = inl same
    go true is later (inr h) = inr (later h)
    go false is later (inl same) = absurd (let e : false ≡ true = sym is ∙ ap test same ∙ does in cc)
    go false is later (inr h) = later h

module _ {X : Type 0} where
  pub among_numbered : (e : ℕ) (xs : List X) (n : ℕ) (x : X) → IsAmong (n, x) (enumerate_from e xs) → (i : ℕ) × (n ≡ e + i) × (slice_get xs i ≡ Some x)
  among_numbered e [] n x h = absurd h
  among_numbered e (y ∷ ys) n x (inl same) =
      let number : e ≡ n = ap (λ (z : ℕ × X). z.0) same in
      let value : y ≡ x = ap (λ (z : ℕ × X). z.1) same in
      (0, (let f : n ≡ e + 0 = omega (arith, number) in f), ap (λ (z : X). Some z) value)
  among_numbered e (y ∷ ys) n x (inr h) =
      let m = among_numbered (e + 1) ys n x h in
      let is = m.1 in
      (suc m.0, (let f : n ≡ e + suc m.0 = omega (arith, is) in f), m.2)

  pub in_numbered : (e : ℕ) (xs : List X) (n i : ℕ) (x : X) → n ≡ e + i → slice_get xs i ≡ Some x → IsAmong (n, x) (enumerate_from e xs)
  in_numbered e [] n i x is at = absurd (none-some x at)
  in_numbered e (y ∷ ys) n zero x is at =
      let number : e ≡ n = omega (arith, is) in
      inl (λ k. (number k, same_Some y x at k))
  in_numbered e (y ∷ ys) n (suc i) x is at = inr (in_numbered (e + 1) ys n i x (let f : n ≡ e + 1 + i = omega (arith, is) in f) at)

-- ---- by their places

module _ {X : Type 0} (test : ℕ × X → Bool) where
  IsThere : ℕ → List X → ℕ × X → Type 0
  IsThere e xs w = (i : ℕ) × (w.0 ≡ e + i) × (slice_get xs i ≡ Some w.1) × (test w ≡ true)

  later_there : (e : ℕ) (x : X) (xs : List X) (w : ℕ × X) → IsThere (e + 1) xs w → IsThere e (x ∷ xs) w
  unfolding IsThere
  later_there e x xs w (i, number, at, does) = (suc i, (let f : w.0 ≡ e + suc i = omega (arith, number) in f), at, does)

  pub there : (e : ℕ) (xs : List X) (k : ℕ) (w : ℕ × X) → slice_get (filter test (enumerate_from e xs)) k ≡ Some w → (i : ℕ) × (w.0 ≡ e + i) × (slice_get xs i ≡ Some w.1) × (test w ≡ true)
  unfolding IsThere
  there e [] k w h = absurd (none-some w h)
  there e (x ∷ xs) k w h = go (test (e, x)) refl (λ k. there (e + 1) xs k w) k h
    where
      go : (b : Bool) → test (e, x) ≡ b → ((k : ℕ) → slice_get (filter test (enumerate_from (e + 1) xs)) k ≡ Some w → IsThere (e + 1) xs w) → (k : ℕ)
          → slice_get (cond b ((e, x) ∷ filter test (enumerate_from (e + 1) xs)) (filter test (enumerate_from (e + 1) xs))) k ≡ Some w → IsThere e (x ∷ xs) w
      go true is later zero h =
          let same = same_Some (e, x) w h in
          subst (IsThere e (x ∷ xs)) same (0, (let f : e ≡ e + 0 = omega arith in f), refl, is)
      go true is later (suc k) h = later_there e x xs w (later k h)
      go false is later k h = later_there e x xs w (later k h)

  pub kept : (e : ℕ) (xs : List X) (n i : ℕ) (x : X) → n ≡ e + i → slice_get xs i ≡ Some x → test (n, x) ≡ true → (k : ℕ) × (slice_get (filter test (enumerate_from e xs)) k ≡ Some (n, x))
  kept e [] n i x number at does = absurd (none-some x at)
  kept e (y ∷ ys) n i x number at does = go (test (e, y)) refl (λ i number at. kept (e + 1) ys n i x number at does) i number at
    where
      go : (b : Bool) → test (e, y) ≡ b → ((i : ℕ) → n ≡ e + 1 + i → slice_get ys i ≡ Some x → (k : ℕ) × (slice_get (filter test (enumerate_from (e + 1) ys)) k ≡ Some (n, x))) → (i : ℕ) → n ≡ e + i → slice_get (y ∷ ys) i ≡ Some x
          → (k : ℕ) × (slice_get (cond b ((e, y) ∷ filter test (enumerate_from (e + 1) ys)) (filter test (enumerate_from (e + 1) ys))) k ≡ Some (n, x))
      go true is later zero number at =
          let first : e ≡ n = omega (arith, number) in
          (0, λ k. Some (first k, same_Some y x at k))
      go false is later zero number at =
          let first : e ≡ n = omega (arith, number) in
          let one : ℕ × X = (e, y) in
          let other : ℕ × X = (n, x) in
          let pair : one ≡ other = λ k. (first k, same_Some y x at k) in
          absurd (let f : false ≡ true = sym is ∙ ap test pair ∙ does in cc)
      go true is later (suc i) number at = let m = later i (let f : n ≡ e + 1 + i = omega (arith, number) in f) at in (suc m.0, m.1)
      go false is later (suc i) number at = later i (let f : n ≡ e + 1 + i = omega (arith, number) in f) at

  pub rising : (e : ℕ) (xs : List X) (j k : ℕ) (v w : ℕ × X) → j < k → slice_get (filter test (enumerate_from e xs)) j ≡ Some v → slice_get (filter test (enumerate_from e xs)) k ≡ Some w → v.0 < w.0
  rising e [] j k v w less f g = absurd (none-some v f)
  rising e (x ∷ xs) j k v w less f g = go (test (e, x)) (λ j k. rising (e + 1) xs j k v w) j k less f g
    where
      go : (b : Bool) → ((j k : ℕ) → j < k → slice_get (filter test (enumerate_from (e + 1) xs)) j ≡ Some v → slice_get (filter test (enumerate_from (e + 1) xs)) k ≡ Some w → v.0 < w.0) → (j k : ℕ) → j < k
          → slice_get (cond b ((e, x) ∷ filter test (enumerate_from (e + 1) xs)) (filter test (enumerate_from (e + 1) xs))) j ≡ Some v
          → slice_get (cond b ((e, x) ∷ filter test (enumerate_from (e + 1) xs)) (filter test (enumerate_from (e + 1) xs))) k ≡ Some w → v.0 < w.0
      go true later zero zero less f g = absurd (omega (arith, less))
      go true later zero (suc k) less f g =
          let first : e ≡ v.0 = ap (λ (z : ℕ × X). z.0) (same_Some (e, x) v f) in
          let after = (there (e + 1) xs k w g).1 in
          omega (arith, first, after)
      go true later (suc j) zero less f g = absurd (omega (arith, less))
      go true later (suc j) (suc k) less f g = later j k (let l : j < k = omega (arith, less) in l) f g
      go false later j k less f g = later j k less f g
