-- The result of putting a member is determined by the cells that its agents get.
use Rattle.std.proofs.Common.{◌≡◌, ◌≢◌, ◌⊎◌, inl, inr, ℕ, zero, suc, Some, List, [], ◌∷◌, slice_get, sym, ap, ◌∙◌, arith}
use Rattle.std.proofs.lemmas.Bool.{cases_eq}
use Rattle.std.proofs.lemmas.Option.{none-some, same_Some, slice_get_within}
use Rattle.in_base.proofs.Each.{at_index}
use Rattle.in_arena.specs.Arenas.{ArenaView, state_at}
use Rattle.in_arena.specs.declared.content.CellNo.{CellNo}
use Rattle.in_compile.specs.Members.{MemberParts}
use Rattle.in_compile.specs.Putting.{IsPut}
use Rattle.in_compile.proofs.Placements.Back.{same_states}

-- a cell is one of these or none of them
one_or_none : (ns : List CellNo) (n : ℕ) → ((k : ℕ) × (slice_get ns k ≡ Some (record { 0 = n }))) ⊎ ((k : ℕ) → slice_get ns k ≡ Some (record { 0 = n }) → ⊥)
one_or_none [] n = inr (λ k at. none-some (record { 0 = n }) at)
one_or_none (m ∷ ns) n = go (cases_eq n m.0) (one_or_none ns n)
  where
    go : (n ≡ m.0) ⊎ (n ≢ m.0) → ((k : ℕ) × (slice_get ns k ≡ Some (record { 0 = n }))) ⊎ ((k : ℕ) → slice_get ns k ≡ Some (record { 0 = n }) → ⊥)
        → ((k : ℕ) × (slice_get (m ∷ ns) k ≡ Some (record { 0 = n }))) ⊎ ((k : ℕ) → slice_get (m ∷ ns) k ≡ Some (record { 0 = n }) → ⊥)
    go (inl e) rest = inl (0, ap (λ (z : ℕ). Some (record { 0 = z })) (sym e))
    go (inr other) (inl at) = inl (suc at.0, at.1)
    go (inr other) (inr none) = inr nowhere
      where
        nowhere : (k : ℕ) → slice_get (m ∷ ns) k ≡ Some (record { 0 = n }) → ⊥
        nowhere zero at = other (sym (ap (λ (c : CellNo). c.0) (same_Some m (record { 0 = n }) at)))
        nowhere (suc k) at = none k at

module _ (m : MemberParts) (ns : List CellNo) (old new other : ArenaView) (put : IsPut m ns old new) (also : IsPut m ns old other) where
  same_at : (n : ℕ) → state_at new n ≡ state_at other n
  same_at n = go (one_or_none ns n)
    where
      go : ((k : ℕ) × (slice_get ns k ≡ Some (record { 0 = n }))) ⊎ ((k : ℕ) → slice_get ns k ≡ Some (record { 0 = n }) → ⊥) → state_at new n ≡ state_at other n
      go (inr none) = put.others n none ∙ sym (also.others n none)
      go (inl (k, at)) =
          let low = slice_get_within ns k (record { 0 = n }) at in
          let many = put.count in
          let a = at_index m.agents k (omega (arith, low, many)) in
          (put.each k a.0 (record { 0 = n }) a.1 at).2 ∙ sym (also.each k a.0 (record { 0 = n }) a.1 at).2

  pub one_put : new ≡ other
  one_put = λ i. record {
    memory = (put.memory ∙ sym also.memory) i;
    cells = (put.cells ∙ sym also.cells) i;
    states = same_states new.states other.states (put.many ∙ sym also.many) same_at i;
  }
