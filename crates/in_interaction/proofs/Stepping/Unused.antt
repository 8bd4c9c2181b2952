-- Numbers without an agent: how they are found, how large they are, and that they are new.
use Rattle.std.proofs.Common.{◌≡◌, ◌⊎◌, inl, inr, ◌+◌, ◌-◌, ◌<◌, ◌≤◌, ℕ, zero, suc, Option, Some, None, List, [], ◌∷◌, ◌++◌, length, length-append, drop, cond, count_by, is_some, slice_get, refl, sym, ap, subst, ◌∙◌, arith}
use Rattle.std.specs.Prelude.{option_and_then}
use Rattle.std.proofs.lemmas.List.{drop_all}
use Rattle.std.proofs.lemmas.List.Sums.{sum_by-cons}
use Rattle.in_interaction.specs.After.{AreEmptyNumbers, AreFirstUnused}
use Rattle.in_interaction.specs.Interacting.{unused}
use Rattle.in_net.specs.declared.nets.AgentNo.{AgentNo}
use Rattle.in_net.specs.declared.nets.Cell.{Cell}
use Rattle.in_base.proofs.Places.{last_at, kept_at}

-- ---- found cell by cell

at_none : (cs : List (Option Cell)) (i : ℕ) → slice_get cs i ≡ Some None → (unused (drop i cs) zero ≡ 0) × ((k : ℕ) → unused (drop i cs) (suc k) ≡ suc (unused (drop (suc i) cs) k))
at_none [] i e = cc
at_none (None ∷ cs) zero e = (refl, λ k. refl)
at_none (Some c ∷ cs) zero e = cc
at_none (c ∷ cs) (suc i) e = at_none cs i e

at_some : (cs : List (Option Cell)) (i : ℕ) (c : Cell) → slice_get cs i ≡ Some (Some c) → (k : ℕ) → unused (drop i cs) k ≡ suc (unused (drop (suc i) cs) k)
at_some [] i c e k = cc
at_some (None ∷ cs) zero c e k = cc
at_some (Some d ∷ cs) zero c e k = refl
at_some (d ∷ cs) (suc i) c e k = at_some cs i c e k

-- one more after those of `old`
pub one_more : (cs : List (Option Cell)) (old : List AgentNo) (n : ℕ) → n ≡ unused cs (length old) → AreFirstUnused cs old →
    (k : ℕ) → k < length old + 1 → slice_get (old ++ record { 0 = n } ∷ []) k ≡ Some (record { 0 = unused cs k })
one_more cs old n is h k lt = by_last (let o : (k < length old) ⊎ (k ≡ length old) = grind arith in o)
  where
    by_last : (k < length old) ⊎ (k ≡ length old) → slice_get (old ++ record { 0 = n } ∷ []) k ≡ Some (record { 0 = unused cs k })
    by_last (inl less) = kept_at old (record { 0 = n } ∷ []) k (record { 0 = unused cs k }) (h k less)
    by_last (inr same) =
        let P : ℕ → Type 0 = λ k. slice_get (old ++ record { 0 = n } ∷ []) k ≡ Some (record { 0 = unused cs k }) in
        subst P (sym same) (last_at old (record { 0 = n }) ∙ ap (λ (z : ℕ). let y : AgentNo = record { 0 = z } in Some y) is)

-- of the first i cells, with the rest behind them
pub record AreFound (cs : List (Option Cell)) (count i : ℕ) (found : List AgentNo) : Type 0 where
  pub few : length found ≤ count
  pub names : AreFirstUnused cs found
  pub rest : (k : ℕ) → length found ≤ k → k < count → unused cs k ≡ i + unused (drop i cs) (k - length found)

pub none_yet : (cs : List (Option Cell)) (count : ℕ) → AreFound cs count 0 []
none_yet cs count = record {
  few = omega arith;
  names = λ k h. absurd (omega (arith, h));
  rest = λ k h l. let e : k - 0 ≡ k = omega arith in ap (unused cs) (sym e) ∙ (let z : unused cs (k - 0) ≡ 0 + unused cs (k - 0) = omega arith in z);
}

pub one_found : (cs : List (Option Cell)) (count i : ℕ) (found : List AgentNo) → AreFound cs count i found → slice_get cs i ≡ Some None → length found < count → AreFound cs count (i + 1) (found ++ record { 0 = i } ∷ [])
one_found cs count i found h e less = record {
  few = let n = length-append found (record { 0 = i } ∷ []) in omega (arith, n, less);
  names = λ k lt. one_more cs found i (sym here) h.names k (let n = length-append found (record { 0 = i } ∷ []) in omega (arith, n, lt));
  rest = λ k le lt. after k (let n = length-append found (record { 0 = i } ∷ []) in omega (arith, n, le)) lt;
}
  where
    here : unused cs (length found) ≡ i
    here =
        let zero_left : length found - length found ≡ 0 = omega arith in
        let le : length found ≤ length found = omega arith in
        h.rest (length found) le less ∙ ap (λ z. i + unused (drop i cs) z) zero_left ∙ ap (λ z. i + z) (at_none cs i e).0 ∙ (let z : i + 0 ≡ i = omega arith in z)

    after : (k : ℕ) → length found + 1 ≤ k → k < count → unused cs k ≡ i + 1 + unused (drop (i + 1) cs) (k - length (found ++ record { 0 = i } ∷ []))
    after k le lt =
        let m : ℕ = k - (length found + 1) in
        let one : k - length found ≡ suc (k - (length found + 1)) = omega (arith, le) in
        let two : k - (length found + 1) ≡ k - length (found ++ record { 0 = i } ∷ []) = ap (λ z. k - z) (sym (length-append found (record { 0 = i } ∷ []))) in
        let next : suc i ≡ i + 1 = omega arith in
        h.rest k (omega (arith, le)) lt ∙ ap (λ z. i + unused (drop i cs) z) one ∙ ap (λ z. i + z) ((at_none cs i e).1 m) ∙ ap (λ z. i + suc (unused (drop z cs) m)) next ∙ ap (λ z. i + suc (unused (drop (i + 1) cs) z)) two
        ∙ (let z : i + suc (unused (drop (i + 1) cs) (k - length (found ++ record { 0 = i } ∷ []))) ≡ i + 1 + unused (drop (i + 1) cs) (k - length (found ++ record { 0 = i } ∷ [])) = omega arith in z)

pub not_found : (cs : List (Option Cell)) (count i : ℕ) (found : List AgentNo) → AreFound cs count i found → ((c : Cell) × (slice_get cs i ≡ Some (Some c))) ⊎ (count ≤ length found) → AreFound cs count (i + 1) found
not_found cs count i found h o = record { few = h.few; names = h.names; rest = λ k le lt. go o k le lt }
  where
    go : ((c : Cell) × (slice_get cs i ≡ Some (Some c))) ⊎ (count ≤ length found) → (k : ℕ) → length found ≤ k → k < count → unused cs k ≡ i + 1 + unused (drop (i + 1) cs) (k - length found)
    go (inl c) k le lt =
        let next : suc i ≡ i + 1 = omega arith in
        h.rest k le lt ∙ ap (λ z. i + z) (at_some cs i c.0 c.1 (k - length found)) ∙ ap (λ z. i + suc (unused (drop z cs) (k - length found))) next
        ∙ (let z : i + suc (unused (drop (i + 1) cs) (k - length found)) ≡ i + 1 + unused (drop (i + 1) cs) (k - length found) = omega arith in z)
    go (inr full) k le lt = absurd (omega (arith, full, le, lt))

pub all_found : (cs : List (Option Cell)) (count : ℕ) (found : List AgentNo) → AreFound cs count (length cs) found → AreEmptyNumbers cs count found
all_found cs count found h = record {
  few = h.few;
  names = h.names;
  rest = λ k le lt. h.rest k le lt ∙ ap (λ z. length cs + unused z (k - length found)) (drop_all (length cs) cs (omega arith));
}

-- ---- how large they are

pub counted : (c : Option Cell) (cs : List (Option Cell)) → count_by is_some (c ∷ cs) ≡ cond (is_some c) 1 0 + count_by is_some cs
counted c cs = sum_by-cons (λ (o : Option Cell). cond (is_some o) 1 0) c cs

pub few_unused : (cs : List (Option Cell)) (k : ℕ) → unused cs k ≤ count_by is_some cs + k
few_unused [] k = omega arith
few_unused (Some c ∷ cs) k = let h = few_unused cs k in let n = counted (Some c) cs in omega (arith, h, n)
few_unused (None ∷ cs) zero = omega arith
few_unused (None ∷ cs) (suc k) = let h = few_unused cs k in let n = counted None cs in omega (arith, h, n)

pub unused_rises : (cs : List (Option Cell)) (k l : ℕ) → k < l → unused cs k < unused cs l
unused_rises [] k l h = h
unused_rises (Some c ∷ cs) k l h = let r = unused_rises cs k l h in omega (arith, r)
unused_rises (None ∷ cs) zero zero h = absurd (omega (arith, h))
unused_rises (None ∷ cs) zero (suc l) h = omega arith
unused_rises (None ∷ cs) (suc k) zero h = absurd (omega (arith, h))
unused_rises (None ∷ cs) (suc k) (suc l) h = let r = unused_rises cs k l (omega (arith, h)) in omega (arith, r)

-- ---- they are new

pub unused_free : (cs : List (Option Cell)) (k : ℕ) → option_and_then (λ (c : Option Cell). c) (slice_get cs (unused cs k)) ≡ None
unused_free [] k = refl
unused_free (Some c ∷ cs) k = unused_free cs k
unused_free (None ∷ cs) zero = refl
unused_free (None ∷ cs) (suc k) = unused_free cs k

less : (a b : ℕ) → suc a ≡ suc b → a ≡ b
less a b e = omega arith

pub unused_apart : (cs : List (Option Cell)) (k l : ℕ) → unused cs k ≡ unused cs l → k ≡ l
unused_apart [] k l e = e
unused_apart (Some c ∷ cs) k l e = unused_apart cs k l (less (unused cs k) (unused cs l) e)
unused_apart (None ∷ cs) zero zero e = refl
unused_apart (None ∷ cs) zero (suc l) e = cc
unused_apart (None ∷ cs) (suc k) zero e = cc
unused_apart (None ∷ cs) (suc k) (suc l) e = ap suc (unused_apart cs k l (less (unused cs k) (unused cs l) e))
