-- The most that a template has, counted in some way, found one by one.
use Rattle.std.proofs.Common.{◌≡◌, ◌⊎◌, inl, inr, ◌<◌, ◌≤◌, ◌+◌, ℕ, max, Some, List, length, slice_get, refl, sym, ap, ◌∙◌, arith}
use Rattle.std.proofs.lemmas.Bool.{cases_lt}
use Rattle.std.proofs.lemmas.Option.{same_Some, slice_get_within}
use Rattle.in_compile.specs.Templates.{TemplateParts, IsMost}

module _ (templates : List TemplateParts) (count : TemplateParts → ℕ) where
  -- some template has `most`
  abbrev pub HasIt : ℕ → Type 0
  HasIt most = (k : ℕ) × (p : TemplateParts) × (slice_get templates k ≡ Some p) × (count p ≡ most)

  -- of the first x templates
  pub record IsMostBelow (x most : ℕ) : Type 0 where
    pub least : (k : ℕ) (p : TemplateParts) → k < x → slice_get templates k ≡ Some p → count p ≤ most
    pub some : ((x ≡ 0) × (most ≡ 0)) ⊎ HasIt most

  pub none_yet : (most : ℕ) → most ≡ 0 → IsMostBelow 0 most
  none_yet most e = record { least = λ k p l s. absurd (omega (arith, l)); some = inl (refl, e) }

  pub one_more : (x most next : ℕ) (p : TemplateParts) → slice_get templates x ≡ Some p → next ≡ max most (count p) → IsMostBelow x most → IsMostBelow (x + 1) next
  one_more x most next p stands is h = record { least = λ k q l s. go k q l s (cases_lt k x); some = inr (found (cases_lt (count p) most) h.some) }
    where
      go : (k : ℕ) (q : TemplateParts) → k < x + 1 → slice_get templates k ≡ Some q → (k < x) ⊎ (x ≤ k) → count q ≤ next
      go k q l s (inl less) = let m = h.least k q less s in omega (arith, m, is)
      go k q l s (inr le) =
          let at : x ≡ k = omega (arith, l, le) in
          let same : count p ≡ count q = ap count (same_Some p q (sym stands ∙ ap (slice_get templates) at ∙ s)) in
          omega (arith, same, is)

      this : count p ≡ next → HasIt next
      this e = (x, p, stands, e)

      found : (count p < most) ⊎ (most ≤ count p) → ((x ≡ 0) × (most ≡ 0)) ⊎ HasIt most → HasIt next
      found (inr le) some = this (omega (arith, le, is))
      found (inl less) (inl none) = absurd (let e = none.1 in omega (arith, less, e))
      found (inl less) (inr some) = (some.0, some.1, some.2, (let e = some.3 in omega (arith, e, less, is)))

  pub of_all : (x most : ℕ) → x ≡ length templates → IsMostBelow x most → IsMost templates count most
  of_all x most all h = (
    λ k p s. h.least k p (let l = slice_get_within templates k p s in omega (arith, l, all)) s,
    elim h.some as (λ (o : ((x ≡ 0) × (most ≡ 0)) ⊎ HasIt most). ((length templates ≡ 0) × (most ≡ 0)) ⊎ HasIt most) [
      | inl none ↦ inl (sym all ∙ none.0, none.1)
      | inr some ↦ inr some
    ],
  )
