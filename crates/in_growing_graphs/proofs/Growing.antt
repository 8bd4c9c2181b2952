-- How one more edge changes the blobs.
use Rattle.std.proofs.Common.{◌≡◌, ◌≢◌, ◌⊎◌, ◌<◌, ℕ, zero, suc, Bool, true, false, nat_eq, List, [], length, refl, sym, subst, ap, inl, inr, ◌∙◌, arith}
use Rattle.std.proofs.lemmas.Bool.{cases_Bool, cases_eq, false≢true}
use Rattle.std.proofs.lemmas.Bool.Decides.{eqb_tells}
use Rattle.in_base.proofs.Places.{last_at}
use Rattle.in_simple_bridges.specs.Walks.{EdgeWalk, done, along, HasTwoEnds, IsOnCycle, Other}
use Rattle.in_simple_bridges.proofs.Public.{joins_same}
use Rattle.in_growing_graphs.specs.Blobs.{AreBlobs, AreInOneBlob, CoversWay, GoesUp, HasHead, IsOnOneWay, IsRooted, LeadsFromHead, over, there, with_value}
use Rattle.in_growing_graphs.specs.Laws.{NoEdgeHasBlobs, added}
use Rattle.in_growing_graphs.proofs.Bridges.{one_up}
use Rattle.in_growing_graphs.proofs.Walks.{back, cycle_kept, ends_cases, ends_kept, new_edge, on_cycle, small, walk_on}

pub no_edge : NoEdgeHasBlobs
no_edge via depth = record {
  rooted = record { tree = λ x p e. absurd (omega (arith, e)); deeper = λ x p e. absurd (omega (arith, e)) };
  above = λ x e. absurd (false≢true e);
  edge = λ k u v h. absurd (none k u v h);
  cycle = λ x e. absurd (false≢true e);
}
  where
    none : (k u v : ℕ) → HasTwoEnds [] k u v → ⊥
    none k u v (inl h) = cc
    none k u v (inr h) = cc

pub goes_map : (up up' : ℕ → ℕ) (P R : ℕ → Type 0) → ((x p : ℕ) → P x → up x ≡ suc p → R x × (up' x ≡ suc p)) → (x y : ℕ) → GoesUp up P x y → GoesUp up' R x y
goes_map up up' P R f x _ (there _) = there x
goes_map up up' P R f x y (over _ p _ h e r) = let k = f x p h e in over x p y k.0 k.1 (goes_map up up' P R f p y r)

pub goes_on : (up : ℕ → ℕ) (P : ℕ → Type 0) (x y z : ℕ) → GoesUp up P x y → GoesUp up P y z → GoesUp up P x z
goes_on up P x _ z (there _) r = r
goes_on up P x y z (over _ p _ h e q) r = over x p z h e (goes_on up P p y z q r)

turned : (up : ℕ → ℕ) (covered : ℕ → Bool) (u v : ℕ) → AreInOneBlob up covered u v → AreInOneBlob up covered v u
turned up covered u v h = (h.0, h.2, h.1)

module _ (edges : List (ℕ × ℕ)) (up via depth : ℕ → ℕ) (old : ℕ → Bool) (a b : ℕ) (blobs : AreBlobs edges up via depth old) where
  abbrev more : List (ℕ × ℕ)
  more = added edges a b

  rooted_still : IsRooted more up via depth
  rooted_still = record { tree = λ x p e. ends_kept edges a b (via x) x p (blobs.rooted.tree x p e); deeper = blobs.rooted.deeper }

  new_ends : (covered : ℕ → Bool) (u v : ℕ) → ((u ≡ a) × (v ≡ b)) ⊎ ((u ≡ b) × (v ≡ a)) → AreInOneBlob up covered a b → AreInOneBlob up covered u v
  new_ends covered u v (inl s) h = subst (λ z. AreInOneBlob up covered z v) (sym s.0) (subst (λ z. AreInOneBlob up covered a z) (sym s.1) h)
  new_ends covered u v (inr s) h = subst (λ z. AreInOneBlob up covered z v) (sym s.0) (subst (λ z. AreInOneBlob up covered b z) (sym s.1) (turned up covered a b h))

  pub stay : AreInOneBlob up old a b → AreBlobs more up via depth old
  stay one = record {
    rooted = rooted_still;
    above = blobs.above;
    edge = λ k u v h. elim (ends_cases edges a b k u v h) [ inl g ↦ blobs.edge k u v g | inr new ↦ inl (new_ends old u v new.1 one) ];
    cycle = λ x c. cycle_kept edges a b (via x) (blobs.cycle x c);
  }

  -- ---- a root is hung from another tree

  module _ (root : up a ≡ 0) (less : depth b < depth a) where
    abbrev ups : ℕ → ℕ
    ups = with_value up a (suc b)

    abbrev vias : ℕ → ℕ
    vias = with_value via a (length edges)

    value_here : (f : ℕ → ℕ) (v : ℕ) → with_value f a v a ≡ v
    value_here f v = elim (eqb_tells a a) [ inl h ↦ let e : nat_eq a a ≡ true = h.0 in rw e refl | inr h ↦ absurd (h.1 refl) ]

    value_there : (f : ℕ → ℕ) (v x : ℕ) → x ≢ a → with_value f a v x ≡ f x
    value_there f v x d = elim (eqb_tells x a) [ inl h ↦ absurd (d h.1) | inr h ↦ let e : nat_eq x a ≡ false = h.0 in rw e refl ]

    not_root : (x p : ℕ) → up x ≡ suc p → x ≢ a
    not_root x p e s = let f : up x ≡ 0 = ap up s ∙ root in omega (arith, e, f)

    up_still : (x p : ℕ) → up x ≡ suc p → ups x ≡ suc p
    up_still x p e = value_there up (suc b) x (not_root x p e) ∙ e

    -- what is above a vertex
    up_cases : (x p : ℕ) → ups x ≡ suc p → ((x ≡ a) × (p ≡ b) × (vias x ≡ length edges)) ⊎ ((up x ≡ suc p) × (vias x ≡ via x))
    up_cases x p e = elim (cases_eq x a) [
      | inl s ↦
          let f : ups x ≡ suc b = ap ups s ∙ value_here up (suc b) in
          inl (s, one_up ups x p b e f, ap vias s ∙ value_here via (length edges))
      | inr d ↦ inr (sym (value_there up (suc b) x d) ∙ e, value_there via (length edges) x d)
    ]

    head_still : (x y : ℕ) → HasHead up old x y → HasHead ups old x y
    head_still x y h = (goes_map up ups (λ z. old z ≡ true) (λ z. old z ≡ true) (λ z p c e. (c, up_still z p e)) x y h.0, h.1)

    bare : old a ≡ false
    bare = elim (cases_Bool (old a)) [ inl c ↦ let r = blobs.above a c in let e = r.1 in absurd (omega (arith, e, root)) | inr c ↦ c ]

    pub linked : AreBlobs more ups vias depth old
    linked = record {
      rooted = record {
        tree = λ x p e. elim (up_cases x p e) [
          | inl s ↦ subst (λ z. HasTwoEnds more (vias x) x z) (sym s.1) (subst (λ z. HasTwoEnds more (vias x) z b) (sym s.0) (subst (λ z. HasTwoEnds more z a b) (sym s.2) (inl (last_at edges (a, b)))))
          | inr s ↦ subst (λ z. HasTwoEnds more z x p) (sym s.1) (ends_kept edges a b (via x) x p (blobs.rooted.tree x p s.0))
        ];
        deeper = λ x p e. elim (up_cases x p e) [
          | inl s ↦ subst (λ z. depth z < depth x) (sym s.1) (subst (λ z. depth b < depth z) (sym s.0) less)
          | inr s ↦ blobs.rooted.deeper x p s.0
        ];
      };
      above = λ x c. let r = blobs.above x c in (r.0, up_still x r.0 r.1);
      edge = λ k u v h. elim (ends_cases edges a b k u v h) [
        | inl g ↦ elim (blobs.edge k u v g) [
          | inl one ↦ inl (one.0, head_still u one.0 one.1, head_still v one.0 one.2)
          | inr head ↦ inr (head.0, head.1, up_still head.0 head.1 head.2, value_there via (length edges) head.0 (not_root head.0 head.1 head.2) ∙ head.3, head.4)
        ]
        | inr new ↦ inr (a, b, value_here up (suc b), value_here via (length edges) ∙ sym new.0, bare)
      ];
      cycle = λ x c.
          let r = blobs.above x c in
          subst (λ z. IsOnCycle more z) (sym (value_there via (length edges) x (not_root x r.0 r.1))) (cycle_kept edges a b (via x) (blobs.cycle x c));
    }

  -- ---- the way between two vertices is covered

  module _ (new : ℕ → Bool) (covers : CoversWay up old new a b) where
    above_new : (x : ℕ) → new x ≡ true → (p : ℕ) × (up x ≡ suc p)
    above_new x c = elim (cases_Bool (old x)) [ inl h ↦ blobs.above x h | inr h ↦ let r = covers.ways.only x c h in (r.0, r.1) ]

    -- each vertex has a head
    head_of : (fuel x : ℕ) → depth x < fuel → (y : ℕ) × HasHead up new x y
    head_of zero x l = absurd (omega (arith, l))
    head_of (suc fuel) x l = elim (cases_Bool (new x)) [
      | inl c ↦
          let r = above_new x c in
          let d = blobs.rooted.deeper x r.0 r.1 in
          let h = head_of fuel r.0 (omega (arith, l, d)) in
          (h.0, (over x r.0 h.0 c r.1 h.1.0, h.1.1))
      | inr c ↦ (x, (there x, c))
    ]

    -- two vertices from which covered edges lead up to one vertex
    meet : (u v y : ℕ) → GoesUp up (λ z. new z ≡ true) u y → GoesUp up (λ z. new z ≡ true) v y → AreInOneBlob up new u v
    meet u v y g h =
        let r = head_of (suc (depth y)) y (omega arith) in
        (r.0, (goes_on up (λ z. new z ≡ true) u y r.0 g r.1.0, r.1.1), (goes_on up (λ z. new z ≡ true) v y r.0 h r.1.0, r.1.1))

    goes_kept : (x y : ℕ) → GoesUp up (λ z. old z ≡ true) x y → GoesUp up (λ z. new z ≡ true) x y
    goes_kept x y g = goes_map up up (λ z. old z ≡ true) (λ z. new z ≡ true) (λ z p c e. (covers.ways.kept z c, e)) x y g

    same_ends : (k u v x p : ℕ) → HasTwoEnds edges k u v → HasTwoEnds edges k x p → AreInOneBlob up new x p → AreInOneBlob up new u v
    same_ends k u v x p g h one = elim (joins_same edges k u v x p g h) [
      | inl s ↦ subst (λ z. AreInOneBlob up new z v) (sym s.0) (subst (λ z. AreInOneBlob up new x z) (sym s.1) one)
      | inr s ↦ subst (λ z. AreInOneBlob up new z v) (sym s.0) (subst (λ z. AreInOneBlob up new p z) (sym s.1) (turned up new x p one))
    ]

    edge_new : (k u v : ℕ) → HasTwoEnds edges k u v → AreInOneBlob up new u v ⊎ LeadsFromHead up via new k
    edge_new k u v g = elim (blobs.edge k u v g) [
      | inl one ↦ inl (meet u v one.0 (goes_kept u one.0 one.1.0) (goes_kept v one.0 one.2.0))
      | inr head ↦ elim (cases_Bool (new head.0)) [
        | inl c ↦ inl (same_ends k u v head.0 head.1 g (subst (λ z. HasTwoEnds edges z head.0 head.1) head.3 (blobs.rooted.tree head.0 head.1 head.2)) (meet head.0 head.1 head.1 (over head.0 head.1 head.1 c head.2 (there head.1)) (there head.1)))
        | inr c ↦ inr (head.0, head.1, head.2, head.3, c)
      ]
    ]

    -- ---- the covered edges are on cycles

    module _ (x p : ℕ) (is_up : up x ≡ suc p) where
      other_via : (y q : ℕ) → y ≢ x → up y ≡ suc q → via y ≢ via x
      other_via y q d e same = elim (joins_same edges (via x) y q x p (subst (λ z. HasTwoEnds edges z y q) same (blobs.rooted.tree y q e)) (blobs.rooted.tree x p is_up)) [
        | inl s ↦ d s.0
        | inr s ↦
            let f = blobs.rooted.deeper y q e in
            let g = blobs.rooted.deeper x p is_up in
            let h : depth y ≡ depth p = ap depth s.0 in
            let i : depth q ≡ depth x = ap depth s.1 in
            absurd (omega (arith, f, g, h, i))
      ]

      walk_up : (u v : ℕ) → GoesUp up (λ y. y ≢ x) u v → EdgeWalk ℕ (Other more (via x)) u v
      walk_up u _ (there _) = done u
      walk_up u v (over _ q _ d e r) = along u q v (via u, other_via u q d e, ends_kept edges a b (via u) u q (blobs.rooted.tree u q e)) (walk_up q v r)

      abbrev Walk : ℕ → ℕ → Type 0
      Walk = EdgeWalk ℕ (Other more (via x))

      join : (u v w : ℕ) → Walk u v → Walk v w → Walk u w
      join u v w g h = walk_on ℕ (Other more (via x)) u v w g h

      across : Walk a b
      across = along a b b (new_edge edges a b (via x) (λ s. let l = small edges (via x) x p (blobs.rooted.tree x p is_up) in omega (arith, s, l))) (done b)

      -- from x down to one end of the new edge, over it, up and down again
      round : (c d : ℕ) → Walk c d → IsOnOneWay up c d covers.meet covers.meet x p → Walk x p
      round c d over_it way = join x c p (back more (via x) c x (walk_up c x way.0)) (join c d p over_it (join d covers.meet p (walk_up d covers.meet way.2) (back more (via x) p covers.meet (walk_up p covers.meet way.1))))

      on_way : IsOnOneWay up a b covers.meet covers.meet x p ⊎ IsOnOneWay up b a covers.meet covers.meet x p → IsOnCycle more (via x)
      on_way (inl way) = on_cycle more (via x) x p (ends_kept edges a b (via x) x p (blobs.rooted.tree x p is_up)) (round a b across way)
      on_way (inr way) = on_cycle more (via x) x p (ends_kept edges a b (via x) x p (blobs.rooted.tree x p is_up)) (round b a (back more (via x) a b across) way)

    pub merged : AreBlobs more up via depth new
    merged = record {
      rooted = rooted_still;
      above = above_new;
      edge = λ k u v h. elim (ends_cases edges a b k u v h) [ inl g ↦ edge_new k u v g | inr is_new ↦ inl (new_ends new u v is_new.1 (meet a b covers.meet covers.ways.one covers.ways.other)) ];
      cycle = λ x c. elim (cases_Bool (old x)) [
        | inl h ↦ cycle_kept edges a b (via x) (blobs.cycle x h)
        | inr h ↦ let r = covers.ways.only x c h in on_way x r.0 r.1 r.2
      ];
    }
