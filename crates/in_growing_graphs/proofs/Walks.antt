-- Walks that are continued, and walks once an edge is added.
use Rattle.std.proofs.Common.{◌≡◌, ◌≢◌, ◌⊎◌, ◌<◌, ℕ, List, [], ◌∷◌, length, sym, subst, ap, inl, inr}
use Rattle.std.proofs.lemmas.Option.{slice_get_within}
use Rattle.in_base.proofs.Places.{kept_at, last_at, more_at}
use Rattle.in_simple_bridges.specs.Walks.{EdgeWalk, done, along, HasTwoEnds, IsOnCycle, Other}
use Rattle.in_simple_bridges.proofs.Public.{joins_same, other_back, walk_turned}
use Rattle.std.proofs.lemmas.Bool.{cases_eq}
use Rattle.in_growing_graphs.specs.Laws.{GrownWalks, HasWalk, HasWalkOver, TwoWaysAreCycles, added}

pub walk_on : (V : Type 0) (E : V → V → Type 0) (u v w : V) → EdgeWalk V E u v → EdgeWalk V E v w → EdgeWalk V E u w
walk_on V E u _ w (done _) r = r
walk_on V E u v w (along _ x _ e q) r = along u x w e (walk_on V E x v w q r)

pub walk_map : (V : Type 0) (E F : V → V → Type 0) → ((u v : V) → E u v → F u v) → (u v : V) → EdgeWalk V E u v → EdgeWalk V F u v
walk_map V E F f u _ (done _) = done u
walk_map V E F f u v (along _ x _ e q) = along u x v (f u x e) (walk_map V E F f x v q)

module _ (edges : List (ℕ × ℕ)) where
  pub back : (e u v : ℕ) → EdgeWalk ℕ (Other edges e) u v → EdgeWalk ℕ (Other edges e) v u
  back e u v w = walk_turned ℕ (Other edges e) (other_back edges e) u v w

  pub ends_turned : (k u v : ℕ) → HasTwoEnds edges k u v → HasTwoEnds edges k v u
  ends_turned k u v (inl h) = inr h
  ends_turned k u v (inr h) = inl h

  pub small : (k u v : ℕ) → HasTwoEnds edges k u v → k < length edges
  small k u v (inl h) = slice_get_within edges k (u, v) h
  small k u v (inr h) = slice_get_within edges k (v, u) h

  -- an edge whose ends are joined without it
  pub on_cycle : (e u v : ℕ) → HasTwoEnds edges e u v → EdgeWalk ℕ (Other edges e) u v → IsOnCycle edges e
  on_cycle e u v (inl h) w = (u, v, h, w)
  on_cycle e u v (inr h) w = (v, u, h, back e u v w)

  -- .. whichever end comes first
  pub of_cycle : (e u v : ℕ) → HasTwoEnds edges e u v → IsOnCycle edges e → EdgeWalk ℕ (Other edges e) u v
  of_cycle e u v h c = elim (joins_same edges e u v c.0 c.1 h (inl c.2)) [
    | inl s ↦ let x : c.0 ≡ u = sym s.0 in let y : c.1 ≡ v = sym s.1 in subst (λ z. EdgeWalk ℕ (Other edges e) u z) y (subst (λ z. EdgeWalk ℕ (Other edges e) z c.1) x c.3)
    | inr s ↦ let x : c.0 ≡ v = sym s.1 in let y : c.1 ≡ u = sym s.0 in back e v u (subst (λ z. EdgeWalk ℕ (Other edges e) v z) y (subst (λ z. EdgeWalk ℕ (Other edges e) z c.1) x c.3))
  ]

pub two_ways : TwoWaysAreCycles
two_ways edges e a b h = (
  (λ c k. elim (cases_eq k e) [
    | inl same ↦ subst (λ z. EdgeWalk ℕ (Other edges z) a b) (sym same) (of_cycle edges e a b h c)
    | inr other ↦ along a b b (e, (λ s. other (sym s)), h) (done b)
  ]),
  λ all. on_cycle edges e a b h (all e),
)

-- ---- one more edge

module _ (edges : List (ℕ × ℕ)) (a b : ℕ) where
  pub ends_kept : (k u v : ℕ) → HasTwoEnds edges k u v → HasTwoEnds (added edges a b) k u v
  ends_kept k u v (inl h) = inl (kept_at edges ((a, b) ∷ []) k (u, v) h)
  ends_kept k u v (inr h) = inr (kept_at edges ((a, b) ∷ []) k (v, u) h)

  pub other_kept : (e u v : ℕ) → Other edges e u v → Other (added edges a b) e u v
  other_kept e u v h = (h.0, h.1, ends_kept h.0 u v h.2)

  pub walk_kept : (e u v : ℕ) → HasWalk edges a b e u v → EdgeWalk ℕ (Other (added edges a b) e) u v
  walk_kept e u v w = walk_map ℕ (Other edges e) (Other (added edges a b) e) (other_kept e) u v w

  pub cycle_kept : (e : ℕ) → IsOnCycle edges e → IsOnCycle (added edges a b) e
  cycle_kept e c = (c.0, c.1, kept_at edges ((a, b) ∷ []) e (c.0, c.1) c.2, walk_kept e c.0 c.1 c.3)

  -- an edge is an earlier one, or the new one
  abbrev pub IsNew : ℕ → ℕ → ℕ → Type 0
  IsNew k u v = (k ≡ length edges) × (((u ≡ a) × (v ≡ b)) ⊎ ((u ≡ b) × (v ≡ a)))

  pub ends_cases : (k u v : ℕ) → HasTwoEnds (added edges a b) k u v → HasTwoEnds edges k u v ⊎ IsNew k u v
  ends_cases k u v (inl h) = elim (more_at edges (a, b) (u, v) k h) [ inl g ↦ inl (inl g) | inr g ↦ inr (g.0, inl (ap (λ z. z.0) (sym g.1), ap (λ z. z.1) (sym g.1))) ]
  ends_cases k u v (inr h) = elim (more_at edges (a, b) (v, u) k h) [ inl g ↦ inl (inr g) | inr g ↦ inr (g.0, inr (ap (λ z. z.1) (sym g.1), ap (λ z. z.0) (sym g.1))) ]

  pub new_edge : (e : ℕ) → e ≢ length edges → Other (added edges a b) e a b
  new_edge e d = (length edges, (λ s. d (sym s)), inl (last_at edges (a, b)))

  module _ (e : ℕ) where
    further : (u x v : ℕ) → Other edges e u x → HasWalkOver edges a b e x v → HasWalkOver edges a b e u v
    further u x v h (inl w) = inl (along u x v h w)
    further u x v h (inr (inl w)) = inr (inl (along u x a h w.0, w.1))
    further u x v h (inr (inr w)) = inr (inr (along u x b h w.0, w.1))

    -- over the new edge first
    from_a : (v : ℕ) → HasWalkOver edges a b e b v → HasWalkOver edges a b e a v
    from_a v (inl w) = inr (inl (done a, w))
    from_a v (inr (inl w)) = inr (inl (done a, w.1))
    from_a v (inr (inr w)) = inl w.1

    from_b : (v : ℕ) → HasWalkOver edges a b e a v → HasWalkOver edges a b e b v
    from_b v (inl w) = inr (inr (done b, w))
    from_b v (inr (inl w)) = inl w.1
    from_b v (inr (inr w)) = inr (inr (done b, w.1))

    over_new : (u x v : ℕ) → ((u ≡ a) × (x ≡ b)) ⊎ ((u ≡ b) × (x ≡ a)) → HasWalkOver edges a b e x v → HasWalkOver edges a b e u v
    over_new u x v (inl s) w = subst (λ z. HasWalkOver edges a b e z v) (sym s.0) (from_a v (subst (λ z. HasWalkOver edges a b e z v) s.1 w))
    over_new u x v (inr s) w = subst (λ z. HasWalkOver edges a b e z v) (sym s.0) (from_b v (subst (λ z. HasWalkOver edges a b e z v) s.1 w))

    of_grown : (u v : ℕ) → EdgeWalk ℕ (Other (added edges a b) e) u v → HasWalkOver edges a b e u v
    of_grown u _ (done _) = inl (done u)
    of_grown u v (along _ x _ h q) = elim (ends_cases h.0 u x h.2) [
      | inl old ↦ further u x v (h.0, h.1, old) (of_grown x v q)
      | inr new ↦ over_new u x v new.1 (of_grown x v q)
    ]

    to_grown : e ≢ length edges → (u v : ℕ) → HasWalkOver edges a b e u v → EdgeWalk ℕ (Other (added edges a b) e) u v
    to_grown d u v (inl w) = walk_kept e u v w
    to_grown d u v (inr (inl w)) = walk_on ℕ (Other (added edges a b) e) u a v (walk_kept e u a w.0) (along a b v (new_edge e d) (walk_kept e b v w.1))
    to_grown d u v (inr (inr w)) = walk_on ℕ (Other (added edges a b) e) u b v (walk_kept e u b w.0) (along b a v (other_back (added edges a b) e a b (new_edge e d)) (walk_kept e a v w.1))

pub grown : GrownWalks
grown edges a b e u v d = (of_grown edges a b e u v, to_grown edges a b e d u v)
