-- There are names that stay apart.
use Rattle.std.proofs.Common.{◌≡◌, ◌<◌, ◌≤◌, ◌+◌, ◌*◌, ◌-◌, ℕ, suc, sym, subst, ap, inl, inr, arith}
use Rattle.std.proofs.lemmas.Bool.{cases_order}
use Rattle.in_gluing.specs.Laws.{NamesExist}

-- ---- names

less : (s d i j : ℕ) → i ≤ s → s * s + i ≡ (s + suc d) * (s + suc d) + j → ⊥
less s d i j h e = omega arith

below : (s t i j : ℕ) → i ≤ s → s * s + i ≡ t * t + j → s < t → ⊥
below s t i j h e l = less s (t - suc s) i j h (let k : s + suc (t - suc s) ≡ t = omega arith in subst (λ z. s * s + i ≡ z * z + j) (sym k) e)

by_sum : (s t i j : ℕ) → i ≤ s → j ≤ t → s * s + i ≡ t * t + j → s ≡ t
by_sum s t i j h g e = elim (cases_order s t) [
  | inl d ↦ d
  | inr l ↦ absurd (elim l [ inl l ↦ below s t i j h e l | inr l ↦ below t s j i g (sym e) l ])
]

pub names_exist : NamesExist
names_exist = (
  (λ i x. (i + x) * (i + x) + i),
  λ i j x y e. (
      let s : i + x ≡ j + y = by_sum (i + x) (j + y) i j (omega arith) (omega arith) e in
      let q : (i + x) * (i + x) ≡ (j + y) * (j + y) = ap (λ z. z * z) s in
      let a : i ≡ j = omega arith in
      (a, omega arith)),
)
