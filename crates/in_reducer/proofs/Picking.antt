-- The picked elements of a list, with one more.
use Rattle.std.proofs.Common.{◌≡◌, ◌⊎◌, inl, inr, ◌<◌, ◌≤◌, ◌+◌, ◌++◌, ℕ, Some, List, [], ◌∷◌, slice_get, sym, ap, subst, ◌∙◌, length-append, arith}
use Rattle.std.specs.Prelude.{option_map}
use Rattle.std.proofs.lemmas.Bool.{cases_lt}
use Rattle.in_base.proofs.Each.{at_index}
use Rattle.in_base.proofs.Places.{kept_at, last_at}
use Rattle.in_reducer.specs.Splitting.{ArePicked}

pub picked_on : {X Y : Type 0} (f : X → Y) (place : ℕ → ℕ) (n : ℕ) (all : List X) (picked : List Y) (x : X) (y : Y) → ArePicked f place n all picked → slice_get all (place n) ≡ Some x → y ≡ f x → ArePicked f place (n + 1) all (picked ++ y ∷ [])
picked_on {Y = Y} f place n all picked x y h at is = record {
  count = length-append picked (y ∷ []) ∙ ap (λ (k : ℕ). k + 1) h.count;
  each = λ e l. each e l (cases_lt e n);
} where
  each : (e : ℕ) → e < n + 1 → (e < n) ⊎ (n ≤ e) → slice_get (picked ++ y ∷ []) e ≡ option_map f (slice_get all (place e))
  each e l (inl low) = let z = at_index picked e (subst (λ (k : ℕ). e < k) (sym h.count) low) in
      kept_at picked (y ∷ []) e z.0 z.1 ∙ sym z.1 ∙ h.each e low
  each e l (inr high) = let same : e ≡ n = omega (arith, l, high) in
      ap (slice_get (picked ++ y ∷ [])) (same ∙ sym h.count) ∙ last_at picked y ∙ ap (λ (v : Y). Some v) is
      ∙ sym (ap (option_map f) (ap (λ (k : ℕ). slice_get all (place k)) same ∙ at))
