-- Blobs of the edges that have come, with one more edge; and what they say of an edge.
use Rattle.std.proofs.Common.{◌≡◌, ◌≢◌, ◌⊎◌, ◌<◌, ◌≤◌, ◌+◌, ℕ, suc, pred, Bool, true, false, nat_eq, List, [], ◌∷◌, ◌++◌, length, take, Some, refl, sym, subst, ap, inl, inr, ◌∙◌, arith, set}
use Rattle.std.specs.Prelude.{slice_get}
use mathlib.Core.Path.{fun_ext}
use Rattle.std.proofs.Math.Nat.{suc-pred-eq_of_pos}
use Rattle.std.proofs.Math.Seq.{take-suc}
use Rattle.std.proofs.lemmas.List.{length-take-le}
use Rattle.std.proofs.lemmas.Option.{get_or_from_slice_get}
use Rattle.in_base.proofs.Places.{last_at}
use Rattle.std.proofs.lemmas.Bool.{true≢false}
use Rattle.std.proofs.lemmas.Bool.Decides.{eqb_tells}
use Rattle.in_simple_bridges.specs.Spans.{at}
use Rattle.in_simple_bridges.specs.Walks.{HasTwoEnds, IsOnCycle, Other}
use Rattle.in_simple_bridges.proofs.Public.{joins_same}
use Rattle.in_open_nets.proofs.Public.{at_other, at_set}
use Rattle.in_growing_graphs.specs.Blobs.{AreBlobs, GoesUp, over, there, with_value}
use Rattle.in_growing_graphs.specs.Laws.{added}
use Rattle.in_growing_graphs.proofs.Public.{decide, ends_cases, ends_kept, goes_map, linked, merged, no_edge, two_ways, walk_map}
use Rattle.in_node_orders.specs.Heads.{AreSkips}
use Rattle.in_node_orders.specs.Growing.{Merges, ShowsBlobs}
use Rattle.in_node_orders.proofs.Ways.{is_bare, way_falls}

-- ---- lists that have the same edges, each from either end

module _ (es fs : List (ℕ × ℕ)) (forth : (k u v : ℕ) → HasTwoEnds es k u v → HasTwoEnds fs k u v) where
  other_same : (e u v : ℕ) → Other es e u v → Other fs e u v
  other_same e u v h = (h.0, h.1, forth h.0 u v h.2)

  -- an edge on a cycle stays on one
  pub cycle_same : (k u v : ℕ) → HasTwoEnds es k u v → IsOnCycle es k → IsOnCycle fs k
  cycle_same k u v h on = (two_ways fs k u v (forth k u v h)).1 (λ e. walk_map ℕ (Other es e) (Other fs e) (other_same e) u v ((two_ways es k u v h).0 on e))

  pub same_blobs : ((k u v : ℕ) → HasTwoEnds fs k u v → HasTwoEnds es k u v) → (up via depth : ℕ → ℕ) (covered : ℕ → Bool) → AreBlobs es up via depth covered → AreBlobs fs up via depth covered
  same_blobs back up via depth covered blobs = record {
    rooted = record { tree = λ x p e. forth (via x) x p (blobs.rooted.tree x p e); deeper = blobs.rooted.deeper };
    above = blobs.above;
    edge = λ k u v h. blobs.edge k u v (back k u v h);
    cycle = λ x c. let r = blobs.above x c in cycle_same (via x) x r.0 (blobs.rooted.tree x r.0 r.1) (blobs.cycle x c);
  }

-- ---- one more edge

one_more : (es : List (ℕ × ℕ)) (k a b : ℕ) → k < length es → slice_get es k ≡ Some (a, b) → added (take k es) a b ≡ take (k + 1) es
one_more es k a b l e =
    let n : k + 1 ≡ suc k = omega arith in
    ap (λ z. take k es ++ z ∷ []) (sym (get_or_from_slice_get es k (a, b) (0, 0) e)) ∙ sym (take-suc es k (0, 0) l) ∙ ap (λ z. take z es) (sym n)

turned_more : (es : List (ℕ × ℕ)) (a b k u v : ℕ) → HasTwoEnds (added es a b) k u v → HasTwoEnds (added es b a) k u v
turned_more es a b k u v h = elim (ends_cases es a b k u v h) [
  | inl g ↦ ends_kept es b a k u v g
  | inr new ↦ subst (λ z. HasTwoEnds (added es b a) z u v) (sym new.0) (elim new.1 [
    | inl s ↦ subst (λ z. HasTwoEnds (added es b a) (length es) z v) (sym s.0) (subst (λ z. HasTwoEnds (added es b a) (length es) a z) (sym s.1) (inr (last_at es (b, a))))
    | inr s ↦ subst (λ z. HasTwoEnds (added es b a) (length es) z v) (sym s.0) (subst (λ z. HasTwoEnds (added es b a) (length es) b z) (sym s.1) (inl (last_at es (b, a))))
  ])
]

value_same : (ns : List ℕ) (k v : ℕ) → k < length ns → with_value (at ns) k v ≡ at (set ns k v)
value_same ns k v l = fun_ext (λ x. elim (eqb_tells x k) [
  | inl h ↦ let e : nat_eq x k ≡ true = h.0 in rw e (sym (at_set ns k v 0 x l h.1))
  | inr h ↦ let e : nat_eq x k ≡ false = h.0 in rw e (sym (at_other ns k v 0 x h.1))
])

-- a root's skips don't go through it
skips_linked : (ups : List ℕ) (covered : ℕ → Bool) (skips : List ℕ) (a v : ℕ) → at ups a ≡ 0 → AreSkips (at ups) covered skips → AreSkips (at (set ups a v)) covered skips
skips_linked ups covered skips a v root s = record {
  bare = s.bare;
  lower = s.lower;
  goes = λ x l. goes_map (at ups) (at (set ups a v)) (λ z. covered z ≡ true) (λ z. covered z ≡ true) (λ z p h e. (h, at_other ups a v 0 z (λ same. let f : at ups z ≡ 0 = ap (at ups) same ∙ root in omega (arith, e, f)) ∙ e)) x (at skips x) (s.goes x l);
}

module _ (es : List (ℕ × ℕ)) (k a b : ℕ) (less : k < length es) (edge : slice_get es k ≡ Some (a, b)) (ups vias skips : List ℕ) where
  count : length (take k es) ≡ k
  count = length-take-le k es (omega arith)

  -- it leads from a root to a lower vertex
  module _ (high low : ℕ) (root : at ups high ≡ 0) (lower : low < high) (up_small : high < length ups) (via_small : high < length vias) where
    linked_from : ShowsBlobs (take k es) ups vias skips → ShowsBlobs (added (take k es) high low) (set ups high (low + 1)) (set vias high k) skips
    linked_from h =
        let covered = h.0 in
        let new = linked (take k es) (at ups) (at vias) (λ x. x) covered high low h.1 root lower in
        let n : suc low ≡ low + 1 = omega arith in
        let u : with_value (at ups) high (suc low) ≡ at (set ups high (low + 1)) = ap (with_value (at ups) high) n ∙ value_same ups high (low + 1) up_small in
        let v : with_value (at vias) high (length (take k es)) ≡ at (set vias high k) = ap (with_value (at vias) high) count ∙ value_same vias high k via_small in
        (covered, subst (λ z. AreBlobs (added (take k es) high low) (at (set ups high (low + 1))) z (λ x. x) covered) v (subst (λ z. AreBlobs (added (take k es) high low) z (with_value (at vias) high (length (take k es))) (λ x. x) covered) u new), skips_linked ups covered skips high (low + 1) root h.2)

    pub shows_linked : ((high ≡ a) × (low ≡ b)) ⊎ ((high ≡ b) × (low ≡ a)) → ShowsBlobs (take k es) ups vias skips → ShowsBlobs (take (k + 1) es) (set ups high (low + 1)) (set vias high k) skips
    shows_linked (inl s) h =
        let r = linked_from h in
        let e : added (take k es) high low ≡ take (k + 1) es = ap (λ z. added (take k es) z low) s.0 ∙ ap (λ z. added (take k es) a z) s.1 ∙ one_more es k a b less edge in
        subst (λ z. ShowsBlobs z (set ups high (low + 1)) (set vias high k) skips) e r
    shows_linked (inr s) h =
        let r = linked_from h in
        let t : ShowsBlobs (added (take k es) low high) (set ups high (low + 1)) (set vias high k) skips =
        (r.0, same_blobs (added (take k es) high low) (added (take k es) low high) (turned_more (take k es) high low) (turned_more (take k es) low high) (at (set ups high (low + 1))) (at (set vias high k)) (λ x. x) r.0 r.1, r.2) in
        let e : added (take k es) low high ≡ take (k + 1) es = ap (λ z. added (take k es) z high) s.1 ∙ ap (λ z. added (take k es) a z) s.0 ∙ one_more es k a b less edge in
        subst (λ z. ShowsBlobs z (set ups high (low + 1)) (set vias high k) skips) e t

  -- the way between its ends is covered
  pub shows_merged : (skips' : List ℕ) → Merges ups skips skips' a b → ShowsBlobs (take k es) ups vias skips → ShowsBlobs (take (k + 1) es) ups vias skips'
  shows_merged skips' m h =
      let r = m h.0 h.2 in
      subst (λ z. ShowsBlobs z ups vias skips') (one_more es k a b less edge) (r.0, merged (take k es) (at ups) (at vias) (λ x. x) h.0 a b h.1 r.0 r.1, r.2)

-- no edge has come
pub shows_none : (es : List (ℕ × ℕ)) (ups vias skips : List ℕ) → ((x : ℕ) → at ups x ≡ 0) → ((x : ℕ) → x < length skips → at skips x ≡ x) → ShowsBlobs (take 0 es) ups vias skips
shows_none es ups vias skips roots own =
    let e : (λ (x : ℕ). 0) ≡ at ups = fun_ext (λ x. sym (roots x)) in
    let blobs : AreBlobs (take 0 es) (λ x. 0) (at vias) (λ x. x) (λ x. false) = no_edge (at vias) (λ x. x) in (
      (λ x. false),
      subst (λ z. AreBlobs (take 0 es) z (at vias) (λ x. x) (λ x. false)) e blobs,
      record {
        bare = λ x l h. own x l;
        lower = λ x l h. absurd (true≢false (sym h));
        goes = λ x l. subst (λ z. GoesUp (at ups) (λ z. false ≡ true) x z) (sym (own x l)) (there x);
      },
    )

-- ---- what the forest says of an edge

module _ (es : List (ℕ × ℕ)) (ups vias skips : List ℕ) (h : ShowsBlobs es ups vias skips) (e high low : ℕ) (ends : HasTwoEnds es e high low) (most : low ≤ high) (small : high < length skips) where
  abbrev covered : ℕ → Bool
  covered = h.0

  blobs : AreBlobs es (at ups) (at vias) (λ x. x) covered
  blobs = h.1

  -- the edge above a bare vertex
  pub is_bridge : 0 < at ups high → at vias high ≡ e → at skips high ≡ high → IsOnCycle es e → ⊥
  is_bridge some via own on =
      let p = pred (at ups high) in
      let up : at ups high ≡ suc p = sym (suc-pred-eq_of_pos some) in
      let bare : covered high ≡ false = is_bare (at ups) covered skips h.2 high small (omega (arith, own)) in
      let tree : HasTwoEnds es e high p = subst (λ z. HasTwoEnds es z high p) via (blobs.rooted.tree high p up) in
      let one = (decide es (at ups) (at vias) (λ x. x) covered blobs e high p tree).0 on in
      let same : one.0 ≡ high = head_bare high one.0 bare one.1.0 in
      let lower = way_falls (at ups) (λ z q f. blobs.rooted.deeper z q f) (λ z. covered z ≡ true) p one.0 one.2.0 in
      let deep = blobs.rooted.deeper high p up in
      omega (arith, same, lower, deep)
    where
      head_bare : (x y : ℕ) → covered x ≡ false → GoesUp (at ups) (λ z. covered z ≡ true) x y → y ≡ x
      head_bare x _ bare (there _) = refl
      head_bare x y bare (over _ p _ c f r) = absurd (true≢false (sym c ∙ bare))

  -- .. and any other edge
  pub is_on_cycle : (at ups high ≡ 0) ⊎ (at vias high ≢ e) ⊎ (at skips high ≢ high) → IsOnCycle es e
  is_on_cycle other = elim (blobs.edge e high low ends) [
    | inl one ↦ (decide es (at ups) (at vias) (λ x. x) covered blobs e high low ends).1 one
    | inr head ↦
        let x = head.0 in
        let p = head.1 in
        let tree : HasTwoEnds es e x p = subst (λ z. HasTwoEnds es z x p) head.3 (blobs.rooted.tree x p head.2) in
        let deep = blobs.rooted.deeper x p head.2 in
        elim (joins_same es e high low x p ends tree) [
          | inl s ↦ absurd (against x p head.2 head.3 head.4 s.0)
          | inr s ↦ let a = s.0 in let b = s.1 in absurd (omega (arith, a, b, deep, most))
        ]
  ]
    where
      against : (x p : ℕ) → at ups x ≡ suc p → at vias x ≡ e → covered x ≡ false → high ≡ x → ⊥
      against x p up via bare same = elim other [
        | inl none ↦ let f : at ups high ≡ at ups x = ap (at ups) same in omega (arith, f, up, none)
        | inr rest ↦ elim rest [
          | inl d ↦ d (ap (at vias) same ∙ via)
          | inr d ↦ d (h.2.bare high small (subst (λ z. covered z ≡ false) (sym same) bare))
        ]
      ]
