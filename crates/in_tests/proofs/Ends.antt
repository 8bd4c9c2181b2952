-- The ends of an agent, one after another.
use Rattle.std.proofs.Common.{◌≡◌, ◌≢◌, ◌⊎◌, inl, inr, ◌≤◌, ◌<◌, ◌+◌, ℕ, Some, None, ap, sym, ◌∙◌, subst, arith}
use Rattle.std.proofs.lemmas.Bool.{cases_eq}
use Rattle.std.proofs.lemmas.Option.{same_Some, slice_get_within}
use Rattle.in_arena.specs.States.{State, Vacant, Leased, Live, end_at, places}
use Rattle.in_arena.specs.declared.content.End.{End}

module _ (x : State) (P : End → Type 0) where
  abbrev pub IsSoBelow : ℕ → Type 0
  IsSoBelow p = (i : ℕ) (e : End) → i < p → end_at x i ≡ Some e → P e

  pub one_more : (p : ℕ) (e : End) → end_at x p ≡ Some e → P e → IsSoBelow p → IsSoBelow (p + 1)
  one_more p e at is h i f less stands = go (cases_eq i p)
    where
      go : (i ≡ p) ⊎ (i ≢ p) → P f
      go (inl same) = subst P (same_Some e f (sym at ∙ ap (end_at x) (sym same) ∙ stands)) is
      go (inr other) = h i f (omega (arith, less, other)) stands

pub so_all : (x : State) (P : End → Type 0) (p : ℕ) → places x ≤ p → IsSoBelow x P p → (i : ℕ) (e : End) → end_at x i ≡ Some e → P e
so_all Vacant P p le h i e stands = let f : None ≡ Some e = stands in cc
so_all Leased P p le h i e stands = let f : None ≡ Some e = stands in cc
so_all (Live w es) P p le h i e stands = h i e (let l = slice_get_within es i e stands in omega (arith, l, le)) stands
