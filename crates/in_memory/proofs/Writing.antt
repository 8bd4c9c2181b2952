-- The contents of cells after one was written.
use Rattle.std.proofs.Common.{◌≡◌, ℕ, suc, ◌<◌, List, [], ◌∷◌, length, set, get_or, ap, ◌∙◌, subst, ⊎_elim, arith, get_or-set_other}
use Rattle.std.specs.Prelude.{Option, Some, None}
use Rattle.std.proofs.lemmas.Bool.{cases_eq}
use Rattle.std.proofs.lemmas.List.{get_or-set_same}
use Rattle.in_memory.specs.Places.{IsFilled, IsHere, AreHere}
use Rattle.in_memory.proofs.Rows.{filled_inside}

module _ {X : Type 0} where
  pub here_inside : (cs : List (Option (Option X))) (i : ℕ) → IsHere cs i → i < length cs
  here_inside cs i h = filled_inside cs i h.0 h.1

  pub filled_here : (cs : List (Option (Option X))) (i : ℕ) → IsFilled cs i → IsHere cs i
  filled_here cs i h = (Some h.0, h.1)

  module _ (cs : List (Option (Option X))) (i : ℕ) (x : X) where
    abbrev after : List (Option (Option X))
    after = set cs i (Some (Some x))

    pub filled_there : i < length cs → IsFilled after i
    filled_there inside = (x, get_or-set_same cs i (Some (Some x)) None inside)

    -- a cell that was here, or written, stays so
    pub here_stays : (j : ℕ) → i < length cs → IsHere cs j → IsHere after j
    here_stays j inside had =
        ⊎_elim (λ (e : j ≡ i). (Some x, ap (λ k. get_or after k None) e ∙ get_or-set_same cs i (Some (Some x)) None inside))
        (λ (ne : j ≡ i → ⊥). (had.0, get_or-set_other cs i j (Some (Some x)) None ne ∙ had.1)) (cases_eq j i)

    pub filled_stays : (j : ℕ) → i < length cs → IsFilled cs j → IsFilled after j
    filled_stays j inside had =
        ⊎_elim (λ (e : j ≡ i). (x, ap (λ k. get_or after k None) e ∙ get_or-set_same cs i (Some (Some x)) None inside))
        (λ (ne : j ≡ i → ⊥). (had.0, get_or-set_other cs i j (Some (Some x)) None ne ∙ had.1)) (cases_eq j i)

-- ---- all cells are here

IsNone : {Y : Type 0} → Option Y → Type 0
IsNone None = Unit {0}
IsNone (Some y) = ⊥

pub none_is_some : {Y : Type 0} (y : Y) → None ≡ Some y → ⊥
unfolding IsNone
none_is_some {Y} y e = subst (λ (o : Option Y). IsNone o) e tt

pub all_here : {X : Type 0} (cs : List (Option (Option X))) → ((i : ℕ) → i < length cs → IsHere cs i) → AreHere cs
all_here [] f = tt
all_here (None ∷ cs) f = absurd (none_is_some _ (f 0 (omega arith)).1)
all_here (Some c ∷ cs) f = all_here cs (λ i lt. f (suc i) (omega (arith, lt)))
