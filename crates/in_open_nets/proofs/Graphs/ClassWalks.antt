-- Walks of a class graph, by vertices and by numbers.
use Rattle.std.proofs.Common.{◌≡◌, ◌≢◌, ◌⊎◌, ◌↔◌, ◌<◌, ◌≤◌, ℕ, suc, Bool, List, Option, Some, None, IsSomeAnd, length, get_or, arith, refl, sym, subst, ap, inl, inr, ◌∙◌}
use Rattle.std.specs.Prelude.{slice_get}
use Rattle.std.proofs.lemmas.Bool.{cases_eq}
use Rattle.in_simple_bridges.specs.Walks.{EdgeWalk, done, along, HasTwoEnds, Other, IsOnCycle}
use Rattle.in_simple_bridges.proofs.Public.{walk_turned, joins_same, other_back, pair_same}
use Rattle.in_base.specs.Graphs.{Graph}
use Rattle.in_open_nets.specs.Constructions.{IsIn}
use Rattle.in_open_nets.specs.Splitting.{SplitsAt}
use Rattle.in_open_nets.specs.ClassGraphs.{Vertex, Hub, Class, AreNodeClasses, OtherEdge, IsVertex, IsClassGraph, HubEdgesAreBridges, HubEdgesAreOffCycles, HasClass, width_at}
use Rattle.in_open_nets.specs.declared.open_nets.Node.{Node}
use Rattle.in_open_nets.specs.declared.open_nets.Node.TheVariants.{AgentNode, ClassNode}
use Rattle.in_open_nets.specs.declared.open_nets.OpenNode.{OpenNode}
use Rattle.in_open_nets.specs.declared.open_nets.OpenPoint.TheVariants.{Port}
use Rattle.in_open_nets.specs.OpenNets.{OpenNet, IsOpenNet, IsAgentNode, IsOpenPoint, class_at, class_in, open_graph}
use Rattle.in_open_nets.proofs.Built.Balance.{wire_turn}
use Rattle.in_open_nets.proofs.Graphs.HubEdges.{splits_by_bridges}

module _ (g : Graph) (Has : g.Node → ℕ → Type 0) (has : AreNodeClasses g Has) (back : (u v : g.Node × ℕ) → g.Wire u v → g.Wire v u) (s : g.Node → Bool) (number : Vertex g.Node → ℕ) (hub_edge : g.Node → ℕ → ℕ) (es : List (ℕ × ℕ)) (c : IsClassGraph g Has s number hub_edge es) (n : g.Node) (x : ℕ) (here : IsIn n s) (hx : Has n x) where
  abbrev E : Vertex g.Node → Vertex g.Node → Type 0
  E = OtherEdge g Has s n x

  abbrev O : ℕ → ℕ → Type 0
  O = Other es (hub_edge n x)

  hub_class : (a b : g.Node) (k : ℕ) → Hub a ≡ Class b k → ⊥
  hub_class a b k e = cc

  hub_same : (a b : g.Node) → Hub a ≡ Hub b → a ≡ b
  hub_same a b e = cc

  class_same : (a b : g.Node) (k h : ℕ) → Class a k ≡ Class b h → k ≡ h
  class_same a b k h e = cc

  -- two hub edges in one place
  hub_one : (m : g.Node) (k : ℕ) → IsIn m s → Has m k → hub_edge m k ≡ hub_edge n x → (m ≡ n) × (k ≡ x)
  hub_one m k hm hk e =
      let p = pair_same (slice_get es (hub_edge n x)) (number (Hub m)) (number (Class m k)) (number (Hub n)) (number (Class n x)) (subst (λ z. slice_get es z ≡ Some (number (Hub m), number (Class m k))) e (c.hub m k hm hk)) (c.hub n x here hx) in
      (hub_same m n (c.apart (Hub m) (Hub n) hm here p.0), class_same m n k x (c.apart (Class m k) (Class n x) (hm, hk) (here, hx) p.1))

  -- a wire is no hub edge
  wire_other : (e : ℕ) (l m : g.Node) (k h : ℕ) → IsIn l s → IsIn m s → Has l k → Has m h → HasTwoEnds es e (number (Class l k)) (number (Class m h)) → e ≢ hub_edge n x
  wire_other e l m k h hl hm hk hh j same =
      elim (joins_same es (hub_edge n x) (number (Hub n)) (number (Class n x)) (number (Class l k)) (number (Class m h)) (inl (c.hub n x here hx)) (subst (λ z. HasTwoEnds es z (number (Class l k)) (number (Class m h))) same j)) [
        | inl q ↦ hub_class n l k (c.apart (Hub n) (Class l k) here (hl, hk) q.0)
        | inr q ↦ hub_class n m h (c.apart (Hub n) (Class m h) here (hm, hh) q.0)
      ]

  edge_forth : (u v : Vertex g.Node) → E u v → O (number u) (number v) × IsVertex g Has s v
  edge_forth (Hub l) (Hub m) e = absurd e
  edge_forth (Hub l) (Class m h) e =
      let t = e.1 in
      ((hub_edge m h, (λ same. t.2 (hub_one m h t.0 t.1 same)), subst (λ z. HasTwoEnds es (hub_edge m h) (number (Hub z)) (number (Class m h))) (sym e.0) (inl (c.hub m h t.0 t.1))), (t.0, t.1))
  edge_forth (Class l k) (Hub m) e =
      let t = e.1 in
      ((hub_edge l k, (λ same. t.2 (hub_one l k t.0 t.1 same)), subst (λ z. HasTwoEnds es (hub_edge l k) (number (Class l k)) (number (Hub z))) e.0 (inr (c.hub l k t.0 t.1))), subst (λ z. IsIn z s) e.0 t.0)
  edge_forth (Class l k) (Class m h) e =
      let hk : Has l k = subst (Has l) e.5 (has l e.2 (m, e.3) e.4) in
      let hh : Has m h = subst (Has m) e.6 (has m e.3 (l, e.2) (back (l, e.2) (m, e.3) e.4)) in
      let t = c.wire l m e.2 e.3 e.0 e.1 e.4 in
      let j : HasTwoEnds es t.0 (number (Class l k)) (number (Class m h)) = subst (λ z. HasTwoEnds es t.0 (number (Class l z)) (number (Class m h))) e.5 (subst (λ z. HasTwoEnds es t.0 (number (Class l (g.class l e.2))) (number (Class m z))) e.6 t.1) in
      ((t.0, wire_other t.0 l m k h e.0 e.1 hk hh j, j), (e.1, hh))

  walk_forth : (u v : Vertex g.Node) → EdgeWalk (Vertex g.Node) E u v → EdgeWalk ℕ O (number u) (number v)
  walk_forth u _ (done _) = done (number u)
  walk_forth u v (along _ w _ e r) = along (number u) (number w) (number v) (edge_forth u w e).0 (walk_forth w v r)

  -- an edge by numbers is one of the class graph
  abbrev Next : Vertex g.Node → ℕ → Type 0
  Next u b = (v : Vertex g.Node) × IsVertex g Has s v × (number v ≡ b) × E u v

  pair_back : (e a b : ℕ) → e ≢ hub_edge n x → slice_get es e ≡ Some (a, b) → (u : Vertex g.Node) × (v : Vertex g.Node) × IsVertex g Has s u × IsVertex g Has s v × (number u ≡ a) × (number v ≡ b) × E u v × E v u
  pair_back e a b ne h = elim (c.only e a b h) [
    | inl t ↦
        let m = t.0 in
        let k = t.1 in
        let p = pair_same (slice_get es e) (number (Hub m)) (number (Class m k)) a b (subst (λ z. slice_get es z ≡ Some (number (Hub m), number (Class m k))) (sym t.4) (c.hub m k t.2 t.3)) h in
        let not : (m ≡ n) × (k ≡ x) → ⊥ = λ q. ne (t.4 ∙ ap (λ z. hub_edge z k) q.0 ∙ ap (hub_edge n) q.1) in
        (Hub m, Class m k, t.2, (t.2, t.3), p.0, p.1, (refl, (t.2, t.3, not)), (refl, (t.2, t.3, not)))
    | inr t ↦
        let l = t.0 in
        let m = t.1 in
        let w' = back (l, t.2) (m, t.3) t.6 in
        (Class l (g.class l t.2), Class m (g.class m t.3), (t.4, has l t.2 (m, t.3) t.6), (t.5, has m t.3 (l, t.2) w'), sym t.7, sym t.8, (t.4, t.5, t.2, t.3, t.6, refl, refl), (t.5, t.4, t.3, t.2, w', refl, refl))
  ]

  edge_back : (u : Vertex g.Node) (a b : ℕ) → IsVertex g Has s u → number u ≡ a → O a b → Next u b
  edge_back u a b hu e (k, ne, inl h) =
      let t = pair_back k a b ne h in
      (t.1, t.3, t.5, subst (λ z. E z t.1) (c.apart t.0 u t.2 hu (t.4 ∙ sym e)) t.6)
  edge_back u a b hu e (k, ne, inr h) =
      let t = pair_back k b a ne h in
      (t.0, t.2, t.4, subst (λ z. E z t.0) (c.apart t.1 u t.3 hu (t.5 ∙ sym e)) t.7)

  walk_back_by : (a b : ℕ) → EdgeWalk ℕ O a b → (u v : Vertex g.Node) → IsVertex g Has s u → IsVertex g Has s v → number u ≡ a → number v ≡ b → EdgeWalk (Vertex g.Node) E u v
  walk_back_by a _ (done _) u v hu hv eu ev = subst (EdgeWalk (Vertex g.Node) E u) (c.apart u v hu hv (eu ∙ sym ev)) (done u)
  walk_back_by a b (along _ w _ o r) u v hu hv eu ev =
      let t = edge_back u a w hu eu o in
      along u t.0 v t.3 (walk_back_by w b r t.0 v t.1 hv t.2 ev)

  pub cycle_of : EdgeWalk (Vertex g.Node) E (Class n x) (Hub n) → IsOnCycle es (hub_edge n x)
  cycle_of w = (number (Hub n), number (Class n x), c.hub n x here hx, walk_turned ℕ O (other_back es (hub_edge n x)) (number (Class n x)) (number (Hub n)) (walk_forth (Class n x) (Hub n) w))

  pub of_cycle : IsOnCycle es (hub_edge n x) → EdgeWalk (Vertex g.Node) E (Class n x) (Hub n)
  of_cycle r =
      let p = pair_same (slice_get es (hub_edge n x)) r.0 r.1 (number (Hub n)) (number (Class n x)) r.2 (c.hub n x here hx) in
      walk_back_by r.1 r.0 (walk_turned ℕ O (other_back es (hub_edge n x)) r.0 r.1 r.3) (Class n x) (Hub n) (here, hx) here (sym p.1) (sym p.0)

pub splits_off_cycles : (g : Graph) (Has : g.Node → ℕ → Type 0) → AreNodeClasses g Has → ((m n : g.Node) → (m ≡ n) ⊎ (m ≡ n → ⊥)) → (back : (u v : g.Node × ℕ) → g.Wire u v → g.Wire v u) → (s : g.Node → Bool) (number : Vertex g.Node → ℕ) (hub_edge : g.Node → ℕ → ℕ) (es : List (ℕ × ℕ)) → IsClassGraph g Has s number hub_edge es → (n : g.Node) → IsIn n s → SplitsAt g n s ↔ HubEdgesAreOffCycles g Has hub_edge es n
splits_off_cycles g Has has same back s number hub_edge es c n here =
    let law = splits_by_bridges g Has has same back n s here in (
      (λ h x hx r. law.0 h x hx (of_cycle g Has has back s number hub_edge es c n x here hx r)),
      λ none. law.1 (λ x hx w. none x hx (cycle_of g Has has back s number hub_edge es c n x here hx w)),
    )

-- ---- of an open net

class_below : (i : ℕ) (m : Option OpenNode) → IsSomeAnd m (λ m. i < length m.class_of) → (IsSomeAnd m IsAgentNode → class_at m i ≤ elim m [ None ↦ 0 | Some m ↦ m.classes ]) → class_at m i < width_at m
class_below i None h f = absurd h
class_below i (Some m) h f = go m.node f
  where
    go : (c : Node) → (elim c as (λ _. Type 0) [ AgentNode y ↦ Unit {0} | ClassNode y c ↦ ⊥ ] → elim c [ AgentNode y ↦ get_or m.class_of i 0 | ClassNode y c ↦ i ] ≤ m.classes) → elim c [ AgentNode y ↦ get_or m.class_of i 0 | ClassNode y c ↦ i ] < elim c [ AgentNode y ↦ suc m.classes | ClassNode y c ↦ length m.class_of ]
    go (AgentNode y) f = let l = f tt in omega arith
    go (ClassNode y c) f = h

module _ (o : OpenNet) (net : IsOpenNet o) where
  pub port_class : (m i : ℕ) → IsOpenPoint o (Port m i) → HasClass o m (class_in o m i)
  port_class m i h = class_below i (slice_get o.nodes m) h (λ a. net.classes m i a h)

  pub has_class : AreNodeClasses (open_graph o) (HasClass o)
  has_class m i q w = port_class m i (net.points w.0 (Port m i) (Port q.0 q.1) w.1)

  pub wire_back : (u v : ℕ × ℕ) → (open_graph o).Wire u v → (open_graph o).Wire v u
  wire_back u v w = (w.0, wire_turn o w.0 (Port u.0 u.1) (Port v.0 v.1) w.1)

  pub net_by_bridges : (n : ℕ) (s : ℕ → Bool) → IsIn n s → SplitsAt (open_graph o) n s ↔ HubEdgesAreBridges (open_graph o) (HasClass o) n s
  net_by_bridges n s here = splits_by_bridges (open_graph o) (HasClass o) has_class cases_eq wire_back n s here

  pub net_off_cycles : (s : ℕ → Bool) (number : Vertex ℕ → ℕ) (hub_edge : ℕ → ℕ → ℕ) (es : List (ℕ × ℕ)) → IsClassGraph (open_graph o) (HasClass o) s number hub_edge es → (n : ℕ) → IsIn n s → SplitsAt (open_graph o) n s ↔ HubEdgesAreOffCycles (open_graph o) (HasClass o) hub_edge es n
  net_off_cycles s number hub_edge es c n here = splits_off_cycles (open_graph o) (HasClass o) has_class cases_eq wire_back s number hub_edge es c n here
