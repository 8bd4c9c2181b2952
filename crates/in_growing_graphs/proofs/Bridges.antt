-- An edge within a blob is on a cycle, and an edge between two blobs is a bridge.
use Rattle.std.proofs.Common.{◌≡◌, ◌≢◌, ◌⊎◌, ◌↔◌, ◌≤◌, ℕ, suc, Bool, true, false, List, refl, sym, subst, ap, inl, inr, ◌∙◌, arith}
use Rattle.std.proofs.lemmas.Bool.{cases_eq, true≢false}
use Rattle.in_simple_bridges.specs.Walks.{EdgeWalk, done, along, HasTwoEnds, IsOnCycle, Other}
use Rattle.in_simple_bridges.proofs.Public.{joins_same}
use Rattle.in_growing_graphs.specs.Blobs.{AreBlobs, AreInOneBlob, GoesUp, there, over}
use Rattle.in_growing_graphs.proofs.Walks.{back, of_cycle, on_cycle, walk_on}

pub one_up : (up : ℕ → ℕ) (x p q : ℕ) → up x ≡ suc p → up x ≡ suc q → p ≡ q
one_up up x p q h k = omega (arith, h, k)

module _ (edges : List (ℕ × ℕ)) (up via depth : ℕ → ℕ) (covered : ℕ → Bool) (blobs : AreBlobs edges up via depth covered) where
  -- v is x, or below it
  abbrev IsUnder : ℕ → ℕ → Type 0
  IsUnder x v = GoesUp up (λ z. Unit {0}) v x

  under_up : (x v q : ℕ) → v ≢ x → up v ≡ suc q → IsUnder x v → IsUnder x q
  under_up x _ q d e (there _) = absurd (d refl)
  under_up x v q d e (over _ p _ u f r) = subst (λ z. IsUnder x z) (one_up up v p q f e) r

  under_depth : (x v : ℕ) → IsUnder x v → depth x ≤ depth v
  under_depth x _ (there _) = omega arith
  under_depth x v (over _ p _ u f r) = let a = under_depth x p r in let b = blobs.rooted.deeper v p f in omega (arith, a, b)

  module _ (x p : ℕ) (is_up : up x ≡ suc p) (bare : covered x ≡ false) where
    to_head : (v y : ℕ) → GoesUp up (λ z. covered z ≡ true) v y → IsUnder x v → IsUnder x y
    to_head v _ (there _) u = u
    to_head v y (over _ q _ c f r) u = to_head q y r (under_up x v q (λ s. true≢false (sym (subst (λ z. covered z ≡ true) s c) ∙ bare)) f u)

    from_head : (v y : ℕ) → GoesUp up (λ z. covered z ≡ true) v y → IsUnder x y → IsUnder x v
    from_head v _ (there _) u = u
    from_head v y (over _ q _ c f r) u = over v q x tt f (from_head q y r u)

    -- another edge stays below x
    stays : (u v : ℕ) → Other edges (via x) u v → IsUnder x u → IsUnder x v
    stays u v h under = elim (blobs.edge h.0 u v h.2) [
      | inl one ↦ from_head v one.0 one.2.0 (to_head u one.0 one.1.0 under)
      | inr head ↦
          let y = head.0 in
          let q = head.1 in
          let differ : y ≢ x = λ s. h.1 (sym head.3 ∙ ap via s) in
          elim (joins_same edges h.0 u v y q h.2 (subst (λ z. HasTwoEnds edges z y q) head.3 (blobs.rooted.tree y q head.2))) [
            | inl s ↦ subst (λ z. IsUnder x z) (sym s.1) (under_up x y q differ head.2 (subst (λ z. IsUnder x z) s.0 under))
            | inr s ↦ subst (λ z. IsUnder x z) (sym s.1) (over y q x tt head.2 (subst (λ z. IsUnder x z) s.0 under))
          ]
    ]

    walk_stays : (u v : ℕ) → EdgeWalk ℕ (Other edges (via x)) u v → IsUnder x u → IsUnder x v
    walk_stays u _ (done _) under = under
    walk_stays u v (along _ m _ h q) under = walk_stays m v q (stays u m h under)

    bridge : IsOnCycle edges (via x) → ⊥
    bridge c =
        let w = of_cycle edges (via x) x p (blobs.rooted.tree x p is_up) c in
        let a = under_depth x p (walk_stays x p w (there x)) in
        let b = blobs.rooted.deeper x p is_up in
        absurd (omega (arith, a, b))

  -- up to the head of the blob without edge k, unless that is on a cycle
  without : (k v y : ℕ) → GoesUp up (λ z. covered z ≡ true) v y → IsOnCycle edges k ⊎ EdgeWalk ℕ (Other edges k) v y
  without k v _ (there _) = inr (done v)
  without k v y (over _ q _ c f r) = elim (cases_eq (via v) k) [
    | inl s ↦ inl (subst (λ z. IsOnCycle edges z) s (blobs.cycle v c))
    | inr d ↦ elim (without k q y r) [ inl on ↦ inl on | inr w ↦ inr (along v q y (via v, d, blobs.rooted.tree v q f) w) ]
  ]

  within : (k u v : ℕ) → HasTwoEnds edges k u v → AreInOneBlob up covered u v → IsOnCycle edges k
  within k u v h one = elim (without k u one.0 one.1.0) [
    | inl on ↦ on
    | inr w ↦ elim (without k v one.0 one.2.0) [
      | inl on ↦ on
      | inr r ↦ on_cycle edges k u v h (walk_on ℕ (Other edges k) u one.0 v w (back edges k v one.0 r))
    ]
  ]

  pub decide : (k u v : ℕ) → HasTwoEnds edges k u v → IsOnCycle edges k ↔ AreInOneBlob up covered u v
  decide k u v h = (
    (λ c. elim (blobs.edge k u v h) [
      | inl one ↦ one
      | inr head ↦ absurd (bridge head.0 head.1 head.2 head.4 (subst (λ z. IsOnCycle edges z) (sym head.3) c))
    ]),
    within k u v h,
  )
