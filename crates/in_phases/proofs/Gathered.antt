-- Agents are gathered, one after another.
use Rattle.std.proofs.Common.{◌≡◌, ◌≢◌, ◌⊎◌, inl, inr, ◌≤◌, ℕ, zero, suc, Bool, true, false, Some, List, [], ◌∷◌, ◌++◌, length, set, slice_get, sym, ap, subst, ◌∙◌, length-set, arith}
use Rattle.std.proofs.lemmas.Option.{slice_get_within}
use Rattle.in_base.proofs.Places.{last_at, kept_at, more_at, set_here, set_there}
use native.Mathlib.Decide.{ℕ_discrete}
use Rattle.in_arena.specs.declared.content.CellNo.{CellNo}
use Rattle.in_reducer.specs.Machines.{AreNumbersBelow, MachineParts}
use Rattle.in_phases.specs.Branches.{AreOfBranch, HasAgent}
use Rattle.in_phases.specs.Marks.{NoOtherIsMarked}

-- a branch that has forgotten its agents
pub none_gathered : (m : MachineParts) (marks : List Bool) → AreNumbersBelow m (length marks) → NoOtherIsMarked [] marks → AreOfBranch m [] marks
none_gathered m marks reached no_other = record {
  there = λ k c at. cc;
  once = λ j k c at also. cc;
  marked = λ k c at. cc;
  listed = λ y at. absurd (no_other y (λ k e. cc) at);
  inside = reached;
}

-- only gathered agents are marked
pub gathered_marks : (m : MachineParts) (agents : List CellNo) (marks : List Bool) → AreOfBranch m agents marks → NoOtherIsMarked agents marks
gathered_marks m agents marks h y none at = let k = h.listed y at in none k.0 k.1

-- the last agent is forgotten, and its mark is taken away
pub one_forgotten : (agents : List CellNo) (c : CellNo) (marks : List Bool) → NoOtherIsMarked (agents ++ c ∷ []) marks → NoOtherIsMarked agents (set marks c.0 false)
one_forgotten agents c marks no_other y none at = elim (ℕ_discrete y c.0) [
  | yes same ↦ unset marks c.0 (subst (λ (z : ℕ). slice_get (set marks c.0 false) z ≡ Some true) same at)
  | no other ↦ no_other y (λ k e. elim (more_at agents c (record { 0 = y }) k e) [
    | inl kept ↦ none k kept
    | inr last ↦ other (ap (λ (z : CellNo). z.0) (sym last.1))
  ]) (sym (set_there marks c.0 y false other) ∙ at)
]
  where
    unset : (marks : List Bool) (n : ℕ) → slice_get (set marks n false) n ≡ Some true → ⊥
    unset [] n e = cc
    unset (b ∷ bs) zero e = cc
    unset (b ∷ bs) (suc n) e = unset bs n e

-- .. or no agent has its number
pub none_forgotten : (agents : List CellNo) (c : CellNo) (marks : List Bool) → NoOtherIsMarked (agents ++ c ∷ []) marks → length marks ≤ c.0 → NoOtherIsMarked agents marks
none_forgotten agents c marks no_other past y none at = no_other y (λ k e. elim (more_at agents c (record { 0 = y }) k e) [
  | inl kept ↦ none k kept
  | inr last ↦ (let low = slice_get_within marks y true at in let same : c.0 ≡ y = ap (λ (z : CellNo). z.0) last.1 in absurd (omega (arith, low, past, same)))
]) at

module _ (m : MachineParts) (agents : List CellNo) (marks : List Bool) (h : AreOfBranch m agents marks) (c : CellNo) (there : HasAgent m c.0) (fresh : slice_get marks c.0 ≡ Some false) where
  not_listed : (k : ℕ) (d : CellNo) → slice_get agents k ≡ Some d → d.0 ≢ c.0
  not_listed k d at same = let e : Some true ≡ Some false = sym (h.marked k d at) ∙ ap (slice_get marks) same ∙ fresh in cc

  same_place : (j k : ℕ) (d : CellNo) → (slice_get agents j ≡ Some d) ⊎ ((j ≡ length agents) × (c ≡ d)) → (slice_get agents k ≡ Some d) ⊎ ((k ≡ length agents) × (c ≡ d)) → j ≡ k
  same_place j k d (inl a) (inl b) = h.once j k d a b
  same_place j k d (inl a) (inr b) = absurd (not_listed j d a (ap (λ (z : CellNo). z.0) (sym b.1)))
  same_place j k d (inr a) (inl b) = absurd (not_listed k d b (ap (λ (z : CellNo). z.0) (sym a.1)))
  same_place j k d (inr a) (inr b) = a.0 ∙ sym b.0

  pub one_more_gathered : AreOfBranch m (agents ++ c ∷ []) (set marks c.0 true)
  one_more_gathered = record {
    there = λ k d at. elim (more_at agents c d k at) [
      | inl old ↦ h.there k d old
      | inr new ↦ subst (λ (z : CellNo). HasAgent m z.0) new.1 there
    ];
    once = λ j k d a b. same_place j k d (more_at agents c d j a) (more_at agents c d k b);
    marked = λ k d at. elim (more_at agents c d k at) [
      | inl old ↦ set_there marks c.0 d.0 true (not_listed k d old) ∙ h.marked k d old
      | inr new ↦ ap (slice_get (set marks c.0 true)) (ap (λ (z : CellNo). z.0) (sym new.1)) ∙ set_here marks c.0 true (h.inside c.0 there)
    ];
    listed = λ y at. elim (ℕ_discrete y c.0) [
      | yes same ↦ (length agents, last_at agents c ∙ ap (λ (z : ℕ). Some (record { 0 = z })) (sym same))
      | no other ↦ (let old = h.listed y (sym (set_there marks c.0 y true other) ∙ at) in (old.0, kept_at agents (c ∷ []) old.0 (record { 0 = y }) old.1))
    ];
    inside = λ y there. (let low = h.inside y there in let e = length-set marks c.0 true in omega (arith, low, e));
  }

-- a branch depends only on which agents there are
pub gathered_still : (m n : MachineParts) (agents : List CellNo) (marks : List Bool) → ((y : ℕ) → HasAgent m y → HasAgent n y) → ((y : ℕ) → HasAgent n y → HasAgent m y) → AreOfBranch m agents marks → AreOfBranch n agents marks
gathered_still m n agents marks on back h = record {
  there = λ k c at. on c.0 (h.there k c at);
  once = h.once;
  marked = h.marked;
  listed = h.listed;
  inside = λ y there. h.inside y (back y there);
}
