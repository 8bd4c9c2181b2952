-- The class graphs of a part join the same vertices.
use Rattle.std.proofs.Common.{◌≡◌, ℕ, Bool, List, Some, sym, subst, inl, inr}
use Rattle.std.specs.Prelude.{slice_get}
use Rattle.in_base.specs.Graphs.{Graph}
use Rattle.in_simple_bridges.specs.Walks.{HasTwoEnds}
use Rattle.in_simple_bridges.proofs.Public.{pair_same}
use Rattle.in_open_nets.specs.ClassEdges.{hub_edge_in, vertex_in}
use Rattle.in_open_nets.specs.ClassGraphs.{AreNodeClasses, Class, HasClass, Hub, IsClassGraph, IsVertex, Vertex}
use Rattle.in_open_nets.specs.Laws.{ClassGraphsAreOne}
use Rattle.in_open_nets.specs.Members.{nodes_in}
use Rattle.in_open_nets.specs.OpenNets.{open_graph}
use Rattle.in_open_nets.proofs.Graphs.ClassWalks.{has_class, wire_back}

-- some edge in the list joins the vertices with these numbers
abbrev AreJoined : {V : Type 0} → (V → ℕ) → List (ℕ × ℕ) → V → V → Type 0
AreJoined number edges u v = (e : ℕ) × HasTwoEnds edges e (number u) (number v)

module _ (g : Graph) (Has : g.Node → ℕ → Type 0) (classes : AreNodeClasses g Has) (back : (u v : g.Node × ℕ) → g.Wire u v → g.Wire v u) (s : g.Node → Bool) (number other : Vertex g.Node → ℕ) (hub_edge hub_far : g.Node → ℕ → ℕ) (es far : List (ℕ × ℕ)) (c : IsClassGraph g Has s number hub_edge es) (d : IsClassGraph g Has s other hub_far far) where
  ends : (u v x y : Vertex g.Node) → u ≡ x → v ≡ y → AreJoined other far x y → AreJoined other far u v
  ends u v x y h k j = subst (λ z. AreJoined other far z v) (sym h) (subst (AreJoined other far x) (sym k) j)

  edge_joins : (e : ℕ) (u v : Vertex g.Node) → IsVertex g Has s u → IsVertex g Has s v → slice_get es e ≡ Some (number u, number v) → AreJoined other far u v
  edge_joins e u v one two at = elim (c.only e (number u) (number v) at) [
    | inl hub ↦
        let m = hub.0 in
        let k = hub.1 in
        let here = hub.2 in
        let has = hub.3 in
        let p = pair_same (slice_get es e) (number u) (number v) (number (Hub m)) (number (Class m k)) at (subst (λ z. slice_get es z ≡ Some (number (Hub m), number (Class m k))) (sym hub.4) (c.hub m k here has)) in
        ends u v (Hub m) (Class m k) (c.apart u (Hub m) one here p.0) (c.apart v (Class m k) two (here, has) p.1) (hub_far m k, inl (d.hub m k here has))
    | inr joined ↦
        let l = joined.0 in
        let m = joined.1 in
        let i = joined.2 in
        let j = joined.3 in
        let near = joined.4 in
        let here = joined.5 in
        let wire = joined.6 in
        ends u v (Class l (g.class l i)) (Class m (g.class m j))
        (c.apart u (Class l (g.class l i)) one (near, classes l i (m, j) wire) joined.7)
        (c.apart v (Class m (g.class m j)) two (here, classes m j (l, i) (back (l, i) (m, j) wire)) joined.8)
        (d.wire l m i j near here wire)
  ]

  turned : (u v : Vertex g.Node) → AreJoined other far u v → AreJoined other far v u
  turned u v (e, inl h) = (e, inr h)
  turned u v (e, inr h) = (e, inl h)

  pub joins_too : (u v : Vertex g.Node) → IsVertex g Has s u → IsVertex g Has s v → AreJoined number es u v → AreJoined other far u v
  joins_too u v one two (e, inl at) = edge_joins e u v one two at
  joins_too u v one two (e, inr at) = turned v u (edge_joins e v u two one at)

pub one_class_graph : ClassGraphsAreOne
one_class_graph o net part g h of_g of_h u v one two = (
  joins_too (open_graph o) (HasClass o) (has_class o net) (wire_back o net) (nodes_in part) (vertex_in g.hubs) (vertex_in h.hubs) (hub_edge_in g.hubs) (hub_edge_in h.hubs) g.edges h.edges of_g.graph of_h.graph u v one two,
  joins_too (open_graph o) (HasClass o) (has_class o net) (wire_back o net) (nodes_in part) (vertex_in h.hubs) (vertex_in g.hubs) (hub_edge_in h.hubs) (hub_edge_in g.hubs) h.edges g.edges of_h.graph of_g.graph u v one two,
)
