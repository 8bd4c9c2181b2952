-- A part's class graph, node by node and wire by wire.
use Rattle.std.proofs.Common.{◌≡◌, ◌⊎◌, ◌↔◌, ◌<◌, ◌≤◌, ◌+◌, ◌-◌, ◌^◌, ℕ, Bool, false, List, [], ◌∷◌, ◌++◌, Some, length, refl, sym, subst, ap, inl, inr, ◌∙◌, arith}
use Rattle.std.specs.Prelude.{slice_get, slice_index_or}
use Rattle.std.proofs.Math.ListN.{set}
use Rattle.std.proofs.lemmas.Bool.{cases_eq, cases_lt, cases_order, false≢true, false_from_ne_true}
use Rattle.std.proofs.lemmas.List.{length-set}
use Rattle.std.proofs.lemmas.Option.{slice_get_within, slice_get-get_or}
use Rattle.in_simple_bridges.specs.Spans.{AreWithin}
use Rattle.in_simple_bridges.specs.Cycles.{AreCycles}
use Rattle.in_simple_bridges.proofs.Public.{pair_same}
use Rattle.in_base.proofs.Places.{kept_at, last_at, more_at}
use Rattle.in_open_nets.specs.declared.class_graphs.HubNumbers.{HubNumbers}
use Rattle.in_open_nets.specs.declared.class_graphs.ClassGraph.{ClassGraph}
use Rattle.in_open_nets.specs.declared.open_nets.OpenPoint.{OpenPoint}
use Rattle.in_open_nets.specs.declared.open_nets.OpenPoint.TheVariants.{Port}
use Rattle.in_open_nets.specs.Constructions.{IsIn}
use Rattle.in_open_nets.specs.OpenNets.{OpenNet, IsOpenNet, IsWire, class_in, open_graph}
use Rattle.in_open_nets.specs.Members.{nodes_in}
use Rattle.in_open_nets.specs.ClassGraphs.{Vertex, Hub, Class, HasClass, IsVertex, IsClassGraph, HubEdgesAreOffCycles, width_of}
use Rattle.in_open_nets.specs.ClassEdges.{no_hub, vertex_in, hub_edge_in, HaveNumbers, AreHubEdges, AddsHubEdges, ComesFirst, IsEdgeOf, IsPast, ListsNone, AreEdges}
use Rattle.in_open_nets.proofs.Built.Balance.{wire_turn}
use Rattle.in_open_nets.proofs.Graphs.ClassWalks.{has_class, port_class}
use Rattle.in_open_nets.proofs.Reached.Reaching.{in_length}
use Rattle.in_open_nets.proofs.Built.Sound.{port_place}
use Rattle.in_open_nets.proofs.PartsOf.Places.{at_other, at_set}

-- ---- the hub edges of one node

-- ---- one more node

abbrev entry : List HubNumbers → ℕ → HubNumbers
entry hubs m = slice_index_or hubs m no_hub

abbrev IsEdgeAt : HubNumbers → List (ℕ × ℕ) → ℕ → Type 0
IsEdgeAt h edges k = slice_get edges (h.edge + k) ≡ Some (h.vertex, h.vertex + 1 + k)

-- .. if none of the part is between
module _ (o : OpenNet) (part : List Bool) (b c : ℕ) (up : b ≤ c) (none : (m : ℕ) → m < c → IsIn m (nodes_in part) → m < b) (hubs : List HubNumbers) where
  pub numbers_up : (count : ℕ) → HaveNumbers o part b hubs count → HaveNumbers o part c hubs count
  numbers_up count n = record {
    size = n.size;
    few = let f = n.few in omega arith;
    room = λ m l h. n.room m (none m l h) h;
    apart = λ l m lt s h k. n.apart l m lt (none m s k) h k;
  }

  pub edges_up : (edges : List (ℕ × ℕ)) → AreHubEdges o part b hubs edges → AreHubEdges o part c hubs edges
  edges_up edges a = record {
    hub = λ m k l h x. a.hub m k (none m l h) h x;
    only = λ e p h. let t = a.only e p h in let l = t.2 in (t.0, t.1, omega arith, t.3, t.4, t.5);
  }

module _ (o : OpenNet) (part : List Bool) (b : ℕ) (small : b < length o.nodes) (hubs : List HubNumbers) (count : ℕ) (n : HaveNumbers o part b hubs count) (vertex edge : ℕ) where
  abbrev more : List HubNumbers
  more = set hubs b (record { vertex = vertex; edge = edge })

  old_entry : (m : ℕ) → m < b → entry more m ≡ entry hubs m
  old_entry m l = at_other hubs b (record { vertex = vertex; edge = edge }) no_hub m (λ e. omega arith)

  new_entry : entry more b ≡ record { vertex = vertex; edge = edge }
  new_entry = let s = n.size in at_set hubs b (record { vertex = vertex; edge = edge }) no_hub b (omega arith) refl

  old_vertex : (m : ℕ) → m < b → (entry more m).vertex ≡ (entry hubs m).vertex
  old_vertex m l = ap (λ (z : HubNumbers). z.vertex) (old_entry m l)

  pub numbers_in : (width : ℕ) → width ≡ width_of o b → width ≤ 256 → vertex ≡ count → HaveNumbers o part (b + 1) more (count + 1 + width)
  numbers_in width w least v =
      let new : (entry more b).vertex ≡ vertex = ap (λ (z : HubNumbers). z.vertex) new_entry in
      record {
        size = let s = n.size in let e = length-set hubs b (record { vertex = vertex; edge = edge }) in omega arith;
        few = let f = n.few in omega arith;
        room = λ m l h. elim (cases_eq m b) [
          | inl e ↦
              let f : (entry more m).vertex ≡ (entry more b).vertex = ap (λ z. (entry more z).vertex) e in
              let g : width_of o m ≡ width_of o b = ap (width_of o) e in
              omega arith
          | inr d ↦ let e = old_vertex m (omega arith) in let r = n.room m (omega arith) h in omega arith
        ];
        apart = λ l m lt s h k. elim (cases_eq m b) [
          | inl e ↦
              let f : (entry more m).vertex ≡ (entry more b).vertex = ap (λ z. (entry more z).vertex) e in
              let g = old_vertex l (omega arith) in
              let r = n.room l (omega arith) h in
              omega arith
          | inr d ↦ let e = old_vertex l (omega arith) in let f = old_vertex m (omega arith) in let r = n.apart l m lt (omega arith) h k in omega arith
        ];
      }

  pub edges_in : (edges : List (ℕ × ℕ)) → AreHubEdges o part b hubs edges → (width : ℕ) (new : List (ℕ × ℕ)) → width ≡ width_of o b → edge ≡ length edges → IsIn b (nodes_in part) → AddsHubEdges vertex width edges new → AreHubEdges o part (b + 1) more new
  edges_in edges a width new w at here add = record {
    hub = λ m k l h x. elim (cases_eq m b) [
      | inl e ↦
          let x' : k < width_of o b = subst (λ z. k < width_of o z) e x in
          let first = add.all k (omega arith) in
          subst (λ z. IsEdgeAt (entry more z) new k) (sym e) (subst (λ z. IsEdgeAt z new k) (sym new_entry) (subst (λ z. slice_get new (z + k) ≡ Some (vertex, vertex + 1 + k)) (sym at) first))
      | inr d ↦ subst (λ z. IsEdgeAt z new k) (sym (old_entry m (omega arith))) (add.kept (hub_edge_in hubs m k) (vertex_in hubs (Hub m), vertex_in hubs (Class m k)) (a.hub m k (omega arith) h x))
    ];
    only = λ e p h. elim (cases_lt e (length edges)) [
      | inl l ↦
          let t = a.only e (slice_index_or edges e (0, 0)) (slice_get-get_or edges e (0, 0) l) in
          let lt = t.2 in
          (t.0, t.1, omega arith, t.3, t.4, t.5 ∙ ap (λ (z : HubNumbers). z.edge + t.1) (sym (old_entry t.0 lt)))
      | inr g ↦
          let s = add.size in
          let l = slice_get_within new e p h in
          let k = e - length edges in
          let f : (entry more b).edge ≡ edge = ap (λ (z : HubNumbers). z.edge) new_entry in
          (b, k, omega arith, here, omega arith, omega arith)
    ];
  }

pub numbers_start : (o : OpenNet) (part : List Bool) (hubs : List HubNumbers) → length o.nodes ≤ length hubs → HaveNumbers o part 0 hubs 0
numbers_start o part hubs size = record { size = size; few = omega arith; room = λ m l. absurd (omega arith); apart = λ l m a s. absurd (omega arith) }

pub edges_start : (o : OpenNet) (part : List Bool) (hubs : List HubNumbers) → AreHubEdges o part 0 hubs []
edges_start o part hubs = record { hub = λ m k l. absurd (omega arith); only = λ e p h. cc }

-- ---- the wires

module _ (o : OpenNet) (part : List Bool) (hubs : List HubNumbers) where
  pub wires_start : (edges : List (ℕ × ℕ)) → length part ≡ length o.nodes → AreHubEdges o part (length o.nodes) hubs edges → AreEdges o part 0 0 hubs edges
  wires_start edges size a = record {
    hub = λ m k h x. let l = in_length part m h in a.hub m k (omega arith) h x;
    wire = λ n i w m j l. absurd (elim l [ inl g ↦ omega arith | inr g ↦ let k = g.1 in omega arith ]);
    only = λ e p h. let t = a.only e p h in inl (t.0, t.1, t.3, t.4, t.5);
  }

  -- all ports that are past now were so before
  pub wires_up : (b k c h : ℕ) (edges : List (ℕ × ℕ)) → AreEdges o part b k hubs edges → ((n i w m j : ℕ) → IsPast c h n i → IsIn n (nodes_in part) → IsWire o w (Port n i) (Port m j) → IsPast b k n i) → AreEdges o part c h hubs edges
  wires_up b k c h edges a past = record {
    hub = a.hub;
    wire = λ n i w m j l here x. a.wire n i w m j (past n i w m j l here x) here x;
    only = a.only;
  }

  -- one port more
  last_port : (b k n i : ℕ) → IsPast b (k + 1) n i → IsPast b k n i ⊎ ((n ≡ b) × (i ≡ k))
  last_port b k n i (inl l) = inl (inl l)
  last_port b k n i (inr (e, l)) = elim (cases_eq i k) [ inl f ↦ inr (e, f) | inr d ↦ inl (inr (e, omega arith)) ]

  pub wire_out : (b k : ℕ) (edges : List (ℕ × ℕ)) → AreEdges o part b k hubs edges → ListsNone o part b k → AreEdges o part b (k + 1) hubs edges
  wire_out b k edges a out = record {
    hub = a.hub;
    wire = λ n i w m j l here x there first. elim (last_port b k n i l) [
      | inl g ↦ a.wire n i w m j g here x there first
      | inr e ↦ absurd (out w m j (subst (λ z. IsWire o w (Port b z) (Port m j)) e.1 (subst (λ z. IsWire o w (Port z i) (Port m j)) e.0 x)) there (subst (λ z. ComesFirst b z m j) e.1 (subst (λ z. ComesFirst z i m j) e.0 first)))
    ];
    only = a.only;
  }

  pub wire_in : (b k : ℕ) (edges : List (ℕ × ℕ)) (edge : ℕ × ℕ) → IsIn b (nodes_in part) → AreEdges o part b k hubs edges → IsEdgeOf o part hubs b k edge → AreEdges o part b (k + 1) hubs (edges ++ edge ∷ [])
  wire_in b k edges edge in_part a is = record {
    hub = λ m h here x. kept_at edges (edge ∷ []) (hub_edge_in hubs m h) (vertex_in hubs (Hub m), vertex_in hubs (Class m h)) (a.hub m h here x);
    wire = λ n i w m j l here x there first. elim (last_port b k n i l) [
      | inl g ↦ let t = a.wire n i w m j g here x there first in (t.0, t.1, kept_at edges (edge ∷ []) t.0 t.1 t.2, t.3)
      | inr e ↦ (length edges, edge, last_at edges edge, subst (λ z. IsEdgeOf o part hubs n z edge) (sym e.1) (subst (λ z. IsEdgeOf o part hubs z k edge) (sym e.0) is))
    ];
    only = λ e p h. elim (more_at edges edge p e h) [
      | inl old ↦ a.only e p old
      | inr new ↦ inr (b, k, in_part, subst (IsEdgeOf o part hubs b k) new.1 is)
    ];
  }

pub first_of : (n i m j : ℕ) → ComesFirst n i m j ⊎ ComesFirst m j n i
first_of n i m j = elim (cases_order n m) [
  | inl e ↦ elim (cases_lt j i) [ inl l ↦ inr (inr (sym e, omega arith)) | inr g ↦ inl (inr (e, omega arith)) ]
  | inr d ↦ elim d [ inl l ↦ inl (inl l) | inr l ↦ inr (inl l) ]
]

-- ---- the class graph

module _ (o : OpenNet) (net : IsOpenNet o) (part : List Bool) (all : length part ≡ length o.nodes) (hubs : List HubNumbers) (count : ℕ) (n : HaveNumbers o part (length o.nodes) hubs count) where
  pub class_room : (m k : ℕ) → IsIn m (nodes_in part) → HasClass o m k → vertex_in hubs (Class m k) < count
  class_room m k h x = let l = in_length part m h in let r = n.room m (omega arith) h in omega arith

  -- vertices of different nodes have different numbers
  of_one : (m l p q : ℕ) → IsIn m (nodes_in part) → IsIn l (nodes_in part) → p ≤ width_of o m → q ≤ width_of o l → vertex_in hubs (Hub m) + p ≡ vertex_in hubs (Hub l) + q → (m ≡ l) × (p ≡ q)
  of_one m l p q hm hl a b e = elim (cases_order m l) [
    | inl same ↦ let f : vertex_in hubs (Hub m) ≡ vertex_in hubs (Hub l) = ap (λ z. vertex_in hubs (Hub z)) same in (same, omega arith)
    | inr d ↦ elim d [
      | inl lt ↦ let k = in_length part l hl in let f = n.apart m l lt (omega arith) hm hl in absurd (omega arith)
      | inr lt ↦ let k = in_length part m hm in let f = n.apart l m lt (omega arith) hl hm in absurd (omega arith)
    ]
  ]

  apart : (u v : Vertex ℕ) → IsVertex (open_graph o) (HasClass o) (nodes_in part) u → IsVertex (open_graph o) (HasClass o) (nodes_in part) v → vertex_in hubs u ≡ vertex_in hubs v → u ≡ v
  apart (Hub m) (Hub l) h k e = ap Hub (of_one m l 0 0 h k (omega arith) (omega arith) (omega arith)).0
  apart (Hub m) (Class l q) h k e = let x = k.1 in let f = (of_one m l 0 (1 + q) h k.0 (omega arith) (omega arith) (omega arith)).1 in absurd (omega arith)
  apart (Class m p) (Hub l) h k e = let x = h.1 in let f = (of_one m l (1 + p) 0 h.0 k (omega arith) (omega arith) (omega arith)).1 in absurd (omega arith)
  apart (Class m p) (Class l q) h k e =
      let x = h.1 in
      let y = k.1 in
      let f = of_one m l (1 + p) (1 + q) h.0 k.0 (omega arith) (omega arith) (omega arith) in
      let g = f.1 in
      let s : p ≡ q = omega arith in
      ap (λ z. Class z p) f.0 ∙ ap (Class l) s

  -- a port's class has a number that fits
  pub class_small : length o.nodes < 2 ^ 32 → (w m i : ℕ) (q : OpenPoint) → IsIn m (nodes_in part) → IsWire o w (Port m i) q → vertex_in hubs (Class m (class_in o m i)) < 2 ^ 63
  class_small s w m i q h e = let r = class_room m (class_in o m i) h (port_class o net m i (net.points w (Port m i) q e)) in let f = n.few in omega arith

  module _ (edges : List (ℕ × ℕ)) (a : AreEdges o part (length o.nodes) 0 hubs edges) where
    -- the edge of a wire from its first point
    edge_of : (w l i m j : ℕ) → IsIn l (nodes_in part) → IsIn m (nodes_in part) → IsWire o w (Port l i) (Port m j) → ComesFirst l i m j → (e : ℕ) × (slice_get edges e ≡ Some (vertex_in hubs (Class l (class_in o l i)), vertex_in hubs (Class m (class_in o m j))))
    edge_of w l i m j h k x first =
        let small = in_length part l h in
        let t = a.wire l i w m j (inl (omega arith)) h x k first in
        let f = port_place t.3.1 m t.3.2 j (net.once t.3.0 w (Port l i) (Port t.3.1 t.3.2) (Port m j) t.3.3 x).1 in
        (t.0, t.2 ∙ ap Some (t.3.5 ∙ ap (λ z. (vertex_in hubs (Class l (class_in o l i)), z)) (ap (λ z. vertex_in hubs (Class z (class_in o z t.3.2))) f.0 ∙ ap (λ z. vertex_in hubs (Class m (class_in o m z))) f.1)))

    pub class_graph : IsClassGraph (open_graph o) (HasClass o) (nodes_in part) (vertex_in hubs) (hub_edge_in hubs) edges
    class_graph = record {
      apart = apart;
      hub = a.hub;
      wire = λ l m i j h k w. elim (first_of l i m j) [
        | inl first ↦ let t = edge_of w.0 l i m j h k w.1 first in (t.0, inl t.1)
        | inr first ↦ let t = edge_of w.0 m j l i k h (wire_turn o w.0 (Port l i) (Port m j) w.1) first in (t.0, inr t.1)
      ];
      only = λ e x y h. elim (a.only e (x, y) h) [
        | inl t ↦ inl t
        | inr t ↦ let d = t.3 in inr (t.0, d.1, t.1, d.2, t.2, d.4, (d.0, d.3), ap (λ z. z.0) d.5, ap (λ z. z.1) d.5)
      ];
    }

    pub graph_within : AreWithin count edges
    graph_within e x y h = elim (a.only e (x, y) h) [
      | inl t ↦
          let p = pair_same (slice_get edges e) x y (vertex_in hubs (Hub t.0)) (vertex_in hubs (Class t.0 t.1)) h (subst (λ z. slice_get edges z ≡ Some (vertex_in hubs (Hub t.0), vertex_in hubs (Class t.0 t.1))) (sym t.4) (a.hub t.0 t.1 t.2 t.3)) in
          let p0 = p.0 in let p1 = p.1 in
          let r = class_room t.0 t.1 t.2 t.3 in
          (omega arith, omega arith)
      | inr t ↦
          let d = t.3 in
          let p0 : x ≡ vertex_in hubs (Class t.0 (class_in o t.0 t.1)) = ap (λ z. z.0) d.5 in
          let p1 : y ≡ vertex_in hubs (Class d.1 (class_in o d.1 d.2)) = ap (λ z. z.1) d.5 in
          let r = class_room t.0 (class_in o t.0 t.1) t.2 (has_class o net t.0 t.1 (d.1, d.2) (d.0, d.3)) in
          let s = class_room d.1 (class_in o d.1 d.2) d.4 (port_class o net d.1 d.2 (net.points d.0 (Port d.1 d.2) (Port t.0 t.1) (wire_turn o d.0 (Port t.0 t.1) (Port d.1 d.2) d.3))) in
          (omega arith, omega arith)
    ]

-- ---- the marks of the cycles

module _ (o : OpenNet) (part : List Bool) (g : ClassGraph) (graph : IsClassGraph (open_graph o) (HasClass o) (nodes_in part) (vertex_in g.hubs) (hub_edge_in g.hubs) g.edges) (cycles : List Bool) (r : AreCycles g.edges (length g.edges) cycles) (n : ℕ) (here : IsIn n (nodes_in part)) where
  pub hub_edge_small : (c : ℕ) → HasClass o n c → hub_edge_in g.hubs n c < length cycles
  hub_edge_small c h =
      let l = slice_get_within g.edges (hub_edge_in g.hubs n c) (vertex_in g.hubs (Hub n), vertex_in g.hubs (Class n c)) (graph.hub n c here h) in
      let s = r.0 in
      omega arith

  pub off_cycles : ((c : ℕ) → HasClass o n c → slice_index_or cycles (hub_edge_in g.hubs n c) false ≡ false) ↔ HubEdgesAreOffCycles (open_graph o) (HasClass o) (hub_edge_in g.hubs) g.edges n
  off_cycles =
      let at : (c : ℕ) → HasClass o n c → hub_edge_in g.hubs n c < length g.edges = λ c h. let l = hub_edge_small c h in let s = r.0 in omega arith in (
        (λ off c h cycle. false≢true (sym (off c h) ∙ (r.1 (hub_edge_in g.hubs n c) (at c h)).1 cycle)),
        λ none c h. false_from_ne_true (slice_index_or cycles (hub_edge_in g.hubs n c) false) (λ t. none c h ((r.1 (hub_edge_in g.hubs n c) (at c h)).0 t)),
      )
