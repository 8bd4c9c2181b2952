-- The steps that are left for others to name.
use Rattle.std.proofs.Common.{◌≡◌, ◌<◌, ◌≤◌, ◌+◌, ℕ, zero, suc, Some, None, List, [], ◌∷◌, ◌++◌, length, length-append, slice_get, take, refl, sym, subst, ap, inl, inr, ◌∙◌, arith}
use Rattle.std.proofs.Math.ListN.{set}
use Rattle.std.proofs.lemmas.List.{length-set, take_more}
use Rattle.std.proofs.lemmas.Option.{get_or_from_slice_get, slice_get_within}
use Rattle.in_simple.specs.declared.verifying.Built.{Built}
use Rattle.in_open_nets.specs.declared.derivations.Step.{Step}
use Rattle.in_open_nets.specs.Derivations.{named, one_if, times, times_in}
use Rattle.in_simple.specs.Checking.{BuiltParts, left_of, left_at, TakesNamed}
use Rattle.in_base.proofs.Places.{set_here, set_there}
use Rattle.in_open_nets.proofs.Public.{one_same, one_other, same_nat, times_in_app}

pub take_one : (parts : BuiltParts) (k : ℕ) (b : Built) → k < length parts → slice_get parts k ≡ Some (Some b) → TakesNamed (k ∷ []) parts (set parts k None)
take_one parts k b l h = record {
  size = length-set parts k None;
  each = λ i. elim (same_nat i k) [
    | inl e ↦
        let a : left_at (set parts k None) i ≡ 0 = ap (λ z. left_at (set parts k None) z) e ∙ ap left_of (set_here parts k None l) in
        let c : left_at parts i ≡ 1 = ap (λ z. left_at parts z) e ∙ ap left_of h in
        let o = one_same i k e in
        omega arith
    | inr d ↦
        let a : left_at (set parts k None) i ≡ left_at parts i = ap left_of (set_there parts k i None d) in
        let o = one_other i k d in
        omega arith
  ];
}

pub take_none : (parts : BuiltParts) → TakesNamed [] parts parts
take_none parts = record { size = refl; each = λ i. omega arith }

pub take_whole : {X : Type 0} (xs : List X) (k : ℕ) → length xs ≤ k → take k xs ≡ xs
take_whole [] zero h = refl
take_whole [] (suc k) h = refl
take_whole (x ∷ xs) zero h = absurd (omega arith)
take_whole (x ∷ xs) (suc k) h = ap (λ z. x ∷ z) (take_whole xs k (omega arith))

pub left_app : (parts : BuiltParts) (b : Built) (i : ℕ) → left_at (parts ++ Some b ∷ []) i ≡ left_at parts i + one_if i (length parts)
left_app [] b zero = refl
left_app [] b (suc i) = let o = one_other (suc i) 0 (λ e. omega arith) in omega arith
left_app (x ∷ xs) b zero = let o = one_other 0 (suc (length xs)) (λ e. omega arith) in omega arith
left_app (x ∷ xs) b (suc i) =
    let r = left_app xs b i in
    elim (same_nat i (length xs)) [
      | inl e ↦ let o = one_same i (length xs) e in let p = one_same (suc i) (suc (length xs)) (omega arith) in omega arith
      | inr d ↦ let o = one_other i (length xs) d in let p = one_other (suc i) (suc (length xs)) (λ e. d (omega arith)) in omega arith
    ]

-- one step more
pub times_next : (f : Step → List ℕ) (n : ℕ) (steps : List Step) (k : ℕ) (step : Step) → slice_get steps k ≡ Some step → times_in f n (take (k + 1) steps) ≡ times_in f n (take k steps) + times n (f step)
times_next f n steps k step e =
    let a : times_in f n (take (k + 1) steps) ≡ times_in f n (take k steps ++ step ∷ []) =
    ap (times_in f n) (take_more steps k step (slice_get_within steps k step e) ∙ ap (λ z. take k steps ++ z ∷ []) (get_or_from_slice_get steps k step step e)) in
    let b = times_in_app f n (take k steps) (step ∷ []) in
    omega arith

-- the steps so far, each left or named once
pub record AreLeft (steps : List Step) (k : ℕ) (parts : BuiltParts) : Type 0 where
  pub size : length parts ≡ k
  pub below : (i : ℕ) → i < k → left_at parts i + times_in named i (take k steps) ≡ 1
  pub above : (i : ℕ) → k ≤ i → left_at parts i + times_in named i (take k steps) ≡ 0

pub left_start : (steps : List Step) (parts : BuiltParts) → parts ≡ [] → AreLeft steps 0 parts
left_start steps parts e = subst (λ z. AreLeft steps 0 z) (sym e) (record { size = refl; below = λ i l. absurd (omega arith); above = λ i l. refl })

pub left_more : (steps : List Step) (k : ℕ) (parts parts' : BuiltParts) (step : Step) (b : Built) → AreLeft steps k parts → slice_get steps k ≡ Some step → TakesNamed (named step) parts parts' → AreLeft steps (k + 1) (parts' ++ Some b ∷ [])
left_more steps k parts parts' step b h e t = record {
  size = let a = length-append parts' (Some b ∷ []) in let c = t.size in let d = h.size in omega arith;
  below = λ i l. elim (same_nat i k) [
    | inl f ↦ let x = h.above i (omega arith) in let y = sum i in let o = one_same i (length parts') (let c = t.size in let d = h.size in omega arith) in omega arith
    | inr f ↦ let x = h.below i (omega arith) in let y = sum i in let o = one_other i (length parts') (λ g. let c = t.size in let d = h.size in f (omega arith)) in omega arith
  ];
  above = λ i l. let x = h.above i (omega arith) in let y = sum i in let o = one_other i (length parts') (λ g. let c = t.size in let d = h.size in omega arith) in omega arith;
}
  where
    sum : (i : ℕ) → left_at (parts' ++ Some b ∷ []) i + times_in named i (take (k + 1) steps) ≡ left_at parts i + times_in named i (take k steps) + one_if i (length parts')
    sum i =
        let a = left_app parts' b i in
        let c = times_next named i steps k step e in
        let g = t.each i in
        omega arith
