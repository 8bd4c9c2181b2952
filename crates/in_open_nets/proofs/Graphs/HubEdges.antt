-- A node splits a set exactly when each of its hub edges is a bridge.
use Rattle.std.proofs.Common.{◌≡◌, ◌≢◌, ◌⊎◌, ◌↔◌, ℕ, Bool, refl, sym, subst, ap, inl, inr, ◌∙◌}
use Rattle.std.proofs.lemmas.Bool.{cases_eq}
use Rattle.in_simple_bridges.specs.Walks.{EdgeWalk, done, along}
use Rattle.in_base.specs.Graphs.{Graph}
use Rattle.in_open_nets.specs.Constructions.{IsIn}
use Rattle.in_open_nets.specs.Splitting.{Linked, alone, onward, Without, SplitsAt}
use Rattle.in_open_nets.specs.ClassGraphs.{Vertex, Hub, Class, OtherEdge, AreNodeClasses, HubEdgesAreBridges}
use Rattle.in_open_nets.proofs.Reached.Links.{link_first, link_last}

module _ (g : Graph) (Has : g.Node → ℕ → Type 0) (has : AreNodeClasses g Has) (same : (m n : g.Node) → (m ≡ n) ⊎ (m ≢ n)) (back : (u v : g.Node × ℕ) → g.Wire u v → g.Wire v u) (n : g.Node) (s : g.Node → Bool) (here : IsIn n s) where
  link_snoc : (u l m : g.Node) (i j : ℕ) → Linked g (Without n s) u l → g.Wire (l, i) (m, j) → Without n s m → Linked g (Without n s) u m
  link_snoc u _ m i j (alone _ h) w k = onward u m m i j h w (alone m k)
  link_snoc u l m i j (onward _ v _ i' j' h x r) w k = onward u v m i' j' h x (link_snoc v l m i j r w k)

  module _ (splits : SplitsAt g n s) (c : ℕ) where
    -- a port of n in class c leads to the component of m
    abbrev Touches : g.Node → Type 0
    Touches m = (i : ℕ) × (l : g.Node) × (h : ℕ) × g.Wire (n, i) (l, h) × (g.class n i ≡ c) × Linked g (Without n s) l m

    -- the nodes that a walk from class c of n can reach without its hub edge
    abbrev Reached : Vertex g.Node → Type 0
    Reached (Hub m) = (m ≢ n) × Touches m
    Reached (Class m k) = ((m ≡ n) × (k ≡ c)) ⊎ ((m ≢ n) × Touches m)

    over_wire : (l m : g.Node) (i j : ℕ) → IsIn m s → g.Wire (l, i) (m, j) → Reached (Class l (g.class l i)) → Reached (Class m (g.class m j))
    over_wire l m i j hm w (inl (e, f)) =
        let w' = subst (λ z. g.Wire (z, i) (m, j)) e w in
        let f' = subst (λ z. g.class z i ≡ c) e f in
        elim (same m n) [
          | inl d ↦ inl (d, ap (λ z. g.class z j) d ∙ sym (splits.own i j (subst (λ z. g.Wire (n, i) (z, j)) d w')) ∙ f')
          | inr d ↦ inr (d, (i, m, j, w', f', alone m (hm, d)))
        ]
    over_wire l m i j hm w (inr (d, t)) = elim (same m n) [
      | inl e ↦ inl (e, ap (λ z. g.class z j) e ∙ sym (splits.touched t.0 j t.1 l t.2 i t.3 (back (l, i) (n, j) (subst (λ z. g.Wire (l, i) (z, j)) e w)) t.5) ∙ t.4)
      | inr e ↦ inr (e, (t.0, t.1, t.2, t.3, t.4, link_snoc t.1 l m i j t.5 w (hm, e)))
    ]

    stays : (u v : Vertex g.Node) → OtherEdge g Has s n c u v → Reached u → Reached v
    stays (Hub l) (Hub m) e r = absurd e
    stays (Hub l) (Class m h) e r = inr (subst (λ z. (z ≢ n) × Touches z) e.0 r)
    stays (Class l k) (Hub m) e (inl r) = absurd (e.1.2 r)
    stays (Class l k) (Hub m) e (inr r) = subst (λ z. (z ≢ n) × Touches z) e.0 r
    stays (Class l k) (Class m h) e r = subst (λ z. Reached (Class m z)) e.6 (over_wire l m e.2 e.3 e.1 e.4 (subst (λ z. Reached (Class l z)) (sym e.5) r))

    leads : (u v : Vertex g.Node) → EdgeWalk (Vertex g.Node) (OtherEdge g Has s n c) u v → Reached u → Reached v
    leads u _ (done _) r = r
    leads u v (along _ m _ e w) r = leads m v w (stays u m e r)

    no_cycle : EdgeWalk (Vertex g.Node) (OtherEdge g Has s n c) (Class n c) (Hub n) → ⊥
    no_cycle w = (leads (Class n c) (Hub n) w (inl (refl, refl))).0 refl

  module _ (c : ℕ) where
    -- through the hubs of other nodes
    through : (l m : g.Node) (k h : ℕ) → Has l k → Has m h → Linked g (Without n s) l m → (v : Vertex g.Node) → EdgeWalk (Vertex g.Node) (OtherEdge g Has s n c) (Class m h) v → EdgeWalk (Vertex g.Node) (OtherEdge g Has s n c) (Class l k) v
    through l _ k h a b (alone _ p) v w =
        along (Class l k) (Hub l) v (refl, (p.0, a, λ x. p.1 x.0)) (along (Hub l) (Class l h) v (refl, (p.0, b, λ x. p.1 x.0)) w)
    through l m k h a b (onward _ x _ i j p e r) v w =
        along (Class l k) (Hub l) v (refl, (p.0, a, λ x. p.1 x.0)) (along (Hub l) (Class l (g.class l i)) v (refl, (p.0, has l i (x, j) e, λ x. p.1 x.0)) (along (Class l (g.class l i)) (Class x (g.class x j)) v (p.0, (link_first g (Without n s) x m r).0, i, j, e, refl, refl) (through x m (g.class x j) h (has x j (l, i) (back (l, i) (x, j) e)) b r v w)))

  home : (c d : ℕ) → Has n d → d ≢ c → EdgeWalk (Vertex g.Node) (OtherEdge g Has s n c) (Class n d) (Hub n)
  home c d a ne = along (Class n d) (Hub n) (Hub n) (refl, (here, a, λ x. ne x.1)) (done (Hub n))

  splitting : HubEdgesAreBridges g Has n s → SplitsAt g n s
  splitting all = record {
    own = λ i j w. elim (cases_eq (g.class n j) (g.class n i)) [
      | inl e ↦ sym e
      | inr d ↦ absurd (all (g.class n i) (has n i (n, j) w) (along (Class n (g.class n i)) (Class n (g.class n j)) (Hub n) (here, here, i, j, w, refl, refl) (home (g.class n i) (g.class n j) (has n j (n, i) (back (n, i) (n, j) w)) d)))
    ];
    touched = λ i j l m k h w v r. elim (cases_eq (g.class n j) (g.class n i)) [
      | inl e ↦ sym e
      | inr d ↦ absurd (all (g.class n i) (has n i (l, k) w) (along (Class n (g.class n i)) (Class l (g.class l k)) (Hub n) (here, (link_first g (Without n s) l m r).0, i, k, w, refl, refl) (through (g.class n i) l m (g.class l k) (g.class m h) (has l k (n, i) (back (n, i) (l, k) w)) (has m h (n, j) (back (n, j) (m, h) v)) r (Hub n) (along (Class m (g.class m h)) (Class n (g.class n j)) (Hub n) ((link_last g (Without n s) l m r).0, here, h, j, back (n, j) (m, h) v, refl, refl) (home (g.class n i) (g.class n j) (has n j (m, h) v) d)))))
    ];
  }

  pub splits_by_bridges : SplitsAt g n s ↔ HubEdgesAreBridges g Has n s
  splits_by_bridges = ((λ h c a w. no_cycle h c w), splitting)
