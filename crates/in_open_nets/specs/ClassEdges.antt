-- The listed class graph of a part: the numbers of its vertices, and its edges.
use Rattle.std.specs.Prelude.{◌≡◌, ◌⊎◌, ℕ, ◌+◌, ◌*◌, ◌<◌, ◌≤◌, Bool, List, length, slice_get, slice_index_or, Some}
use Rattle.in_open_nets.specs.declared.class_graphs.HubNumbers.{HubNumbers}
use Rattle.in_open_nets.specs.declared.class_graphs.ClassGraph.{ClassGraph}
use Rattle.in_open_nets.specs.declared.open_nets.OpenPoint.TheVariants.{Port}
use Rattle.in_simple_bridges.specs.Spans.{AreWithin}
use Rattle.in_open_nets.specs.Constructions.{IsIn}
use Rattle.in_open_nets.specs.OpenNets.{OpenNet, IsWire, class_in, open_graph}
use Rattle.in_open_nets.specs.Members.{nodes_in}
use Rattle.in_open_nets.specs.ClassGraphs.{Vertex, Hub, Class, HasClass, IsClassGraph, width_of}

abbrev pub no_hub : HubNumbers
no_hub = record { vertex = 0; edge = 0 }

-- the number of a vertex: the classes of a node follow its hub
abbrev pub vertex_in : List HubNumbers → Vertex ℕ → ℕ
vertex_in hubs (Hub n) = (slice_index_or hubs n no_hub).vertex
vertex_in hubs (Class n c) = (slice_index_or hubs n no_hub).vertex + 1 + c

-- the number of a hub edge: those of a node follow one another
abbrev pub hub_edge_in : List HubNumbers → ℕ → ℕ → ℕ
hub_edge_in hubs n c = (slice_index_or hubs n no_hub).edge + c

abbrev pub IsClassGraphOf : OpenNet → List Bool → ClassGraph → Type 0
IsClassGraphOf o part g = IsClassGraph (open_graph o) (HasClass o) (nodes_in part) (vertex_in g.hubs) (hub_edge_in g.hubs) g.edges

-- .. whose edges are between its vertices, with a hub for each node
pub record IsGraphOf (o : OpenNet) (part : List Bool) (g : ClassGraph) : Type 0 where
  pub graph : IsClassGraphOf o part g
  pub within : AreWithin g.count g.edges
  pub hubs : length o.nodes ≤ length g.hubs

-- ---- the code's invariants

-- the vertices of each node of the part below b come after those of the nodes before it, and are below count; a node has a hub and at
-- most 256 classes
pub record HaveNumbers (o : OpenNet) (part : List Bool) (b : ℕ) (hubs : List HubNumbers) (count : ℕ) : Type 0 where
  pub size : length o.nodes ≤ length hubs
  pub few : count ≤ b * 257
  pub room : (m : ℕ) → m < b → IsIn m (nodes_in part) → vertex_in hubs (Hub m) + width_of o m < count
  pub apart : (m n : ℕ) → m < n → n < b → IsIn m (nodes_in part) → IsIn n (nodes_in part) → vertex_in hubs (Hub m) + width_of o m < vertex_in hubs (Hub n)

-- the edge from the hub of m to its class k has its number
abbrev pub IsHubEdge : List HubNumbers → List (ℕ × ℕ) → ℕ → ℕ → Type 0
IsHubEdge hubs edges m k = slice_get edges (hub_edge_in hubs m k) ≡ Some (vertex_in hubs (Hub m), vertex_in hubs (Class m k))

-- these are the hub edges of the nodes of the part below b
pub record AreHubEdges (o : OpenNet) (part : List Bool) (b : ℕ) (hubs : List HubNumbers) (edges : List (ℕ × ℕ)) : Type 0 where
  pub hub : (m k : ℕ) → m < b → IsIn m (nodes_in part) → HasClass o m k → IsHubEdge hubs edges m k
  pub only : (e : ℕ) (edge : ℕ × ℕ) → slice_get edges e ≡ Some edge → (m : ℕ) × (k : ℕ) × (m < b) × IsIn m (nodes_in part) × HasClass o m k × (e ≡ hub_edge_in hubs m k)

-- edges from a hub to the classes below width are added at the end
pub record AddsHubEdges (hub width : ℕ) (old new : List (ℕ × ℕ)) : Type 0 where
  pub size : length new ≡ length old + width
  pub kept : (e : ℕ) (p : ℕ × ℕ) → slice_get old e ≡ Some p → slice_get new e ≡ Some p
  pub all : (c : ℕ) → c < width → slice_get new (length old + c) ≡ Some (hub, hub + 1 + c)

-- port i of n leads to a node of the part, and has this edge
abbrev pub IsEdgeOf : OpenNet → List Bool → List HubNumbers → ℕ → ℕ → ℕ × ℕ → Type 0
IsEdgeOf o part hubs n i edge = (w : ℕ) × (m : ℕ) × (j : ℕ) × IsWire o w (Port n i) (Port m j) × IsIn m (nodes_in part)
    × (edge ≡ (vertex_in hubs (Class n (class_in o n i)), vertex_in hubs (Class m (class_in o m j))))

-- a wire is listed at its first point
abbrev pub ComesFirst : ℕ → ℕ → ℕ → ℕ → Type 0
ComesFirst n i m j = (n < m) ⊎ ((n ≡ m) × (i ≤ j))

-- no wire is listed at port i of n
abbrev pub ListsNone : OpenNet → List Bool → ℕ → ℕ → Type 0
ListsNone o part n i = (w m j : ℕ) → IsWire o w (Port n i) (Port m j) → IsIn m (nodes_in part) → ComesFirst n i m j → ⊥

-- the port is one of a node below b, or a port of b below k
abbrev pub IsPast : ℕ → ℕ → ℕ → ℕ → Type 0
IsPast b k n i = (n < b) ⊎ ((n ≡ b) × (i < k))

-- these are the hub edges of the part, and the edges of the wires that are listed at the past ports
pub record AreEdges (o : OpenNet) (part : List Bool) (b k : ℕ) (hubs : List HubNumbers) (edges : List (ℕ × ℕ)) : Type 0 where
  pub hub : (m h : ℕ) → IsIn m (nodes_in part) → HasClass o m h → IsHubEdge hubs edges m h
  pub wire : (n i w m j : ℕ) → IsPast b k n i → IsIn n (nodes_in part) → IsWire o w (Port n i) (Port m j) → IsIn m (nodes_in part) → ComesFirst n i m j → (e : ℕ) × (edge : ℕ × ℕ) × (slice_get edges e ≡ Some edge) × IsEdgeOf o part hubs n i edge
  pub only : (e : ℕ) (edge : ℕ × ℕ) → slice_get edges e ≡ Some edge → ((m : ℕ) × (h : ℕ) × IsIn m (nodes_in part) × HasClass o m h × (e ≡ hub_edge_in hubs m h)) ⊎ ((n : ℕ) × (i : ℕ) × IsIn n (nodes_in part) × IsEdgeOf o part hubs n i edge)
