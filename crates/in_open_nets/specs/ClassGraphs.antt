-- The class graph of a set of nodes: a hub for each node, a vertex for each of its classes, an edge from the hub to each of these,
-- and the wires between the classes of their ports. This project's own: its bridges decide which nodes split the set.
use Rattle.std.specs.Prelude.{◌≡◌, ◌⊎◌, ℕ, suc, ◌<◌, Bool, List, length, slice_get, Option, Some, None}
use Rattle.in_base.specs.Graphs.{Graph}
use Rattle.in_simple_bridges.specs.Walks.{EdgeWalk, HasTwoEnds, IsOnCycle}
use Rattle.in_open_nets.specs.declared.open_nets.Node.TheVariants.{AgentNode, ClassNode}
use Rattle.in_open_nets.specs.declared.open_nets.OpenNode.{OpenNode}
use Rattle.in_open_nets.specs.Constructions.{IsIn}
use Rattle.in_open_nets.specs.OpenNets.{OpenNet}

pub data Vertex (V : Type 0) : Type 0 where
  Hub : V → Vertex V
  Class : V → ℕ → Vertex V

-- the numbers of the classes of a node, those of its wired ports among them
abbrev pub AreNodeClasses : (g : Graph) → (g.Node → ℕ → Type 0) → Type 0
AreNodeClasses g Has = (m : g.Node) (i : ℕ) (q : g.Node × ℕ) → g.Wire (m, i) q → Has m (g.class m i)

-- the edge from the hub of m to its class k, if that isn't the one from n to c
abbrev pub OtherHubEdge : (g : Graph) → (g.Node → ℕ → Type 0) → (g.Node → Bool) → g.Node → ℕ → g.Node → ℕ → Type 0
OtherHubEdge g Has s n c m k = IsIn m s × Has m k × ((m ≡ n) × (k ≡ c) → ⊥)

-- an edge between these vertices, but not the hub edge from n to c
abbrev pub OtherEdge : (g : Graph) → (g.Node → ℕ → Type 0) → (g.Node → Bool) → g.Node → ℕ → Vertex g.Node → Vertex g.Node → Type 0
OtherEdge g Has s n c (Hub l) (Hub m) = ⊥
OtherEdge g Has s n c (Hub l) (Class m h) = (l ≡ m) × OtherHubEdge g Has s n c m h
OtherEdge g Has s n c (Class l k) (Hub m) = (l ≡ m) × OtherHubEdge g Has s n c l k
OtherEdge g Has s n c (Class l k) (Class m h) = IsIn l s × IsIn m s × (i : ℕ) × (j : ℕ) × g.Wire (l, i) (m, j) × (g.class l i ≡ k) × (g.class m j ≡ h)

-- each hub edge of n is a bridge: without it no walk leads from the class to the hub
abbrev pub HubEdgesAreBridges : (g : Graph) → (g.Node → ℕ → Type 0) → g.Node → (g.Node → Bool) → Type 0
HubEdgesAreBridges g Has n s = (c : ℕ) → Has n c → EdgeWalk (Vertex g.Node) (OtherEdge g Has s n c) (Class n c) (Hub n) → ⊥

-- ---- as a list of edges between numbers

abbrev pub IsVertex : (g : Graph) → (g.Node → ℕ → Type 0) → (g.Node → Bool) → Vertex g.Node → Type 0
IsVertex g Has s (Hub m) = IsIn m s
IsVertex g Has s (Class m k) = IsIn m s × Has m k

-- the vertices have different numbers, each hub edge has one place in the list, and every other edge there is a wire between nodes of s
pub record IsClassGraph (g : Graph) (Has : g.Node → ℕ → Type 0) (s : g.Node → Bool) (number : Vertex g.Node → ℕ) (hub_edge : g.Node → ℕ → ℕ) (es : List (ℕ × ℕ)) : Type 0 where
  pub apart : (u v : Vertex g.Node) → IsVertex g Has s u → IsVertex g Has s v → number u ≡ number v → u ≡ v
  pub hub : (m : g.Node) (k : ℕ) → IsIn m s → Has m k → slice_get es (hub_edge m k) ≡ Some (number (Hub m), number (Class m k))
  pub wire : (l m : g.Node) (i j : ℕ) → IsIn l s → IsIn m s → g.Wire (l, i) (m, j) → (e : ℕ) × HasTwoEnds es e (number (Class l (g.class l i))) (number (Class m (g.class m j)))
  pub only : (e a b : ℕ) → slice_get es e ≡ Some (a, b) → ((m : g.Node) × (k : ℕ) × IsIn m s × Has m k × (e ≡ hub_edge m k))
      ⊎ ((l : g.Node) × (m : g.Node) × (i : ℕ) × (j : ℕ) × IsIn l s × IsIn m s × g.Wire (l, i) (m, j) × (a ≡ number (Class l (g.class l i))) × (b ≡ number (Class m (g.class m j))))

-- no hub edge of n is on a cycle
abbrev pub HubEdgesAreOffCycles : (g : Graph) → (g.Node → ℕ → Type 0) → (g.Node → ℕ → ℕ) → List (ℕ × ℕ) → g.Node → Type 0
HubEdgesAreOffCycles g Has hub_edge es n = (c : ℕ) → Has n c → IsOnCycle es (hub_edge n c) → ⊥

-- ---- of an open net

-- an agent's ports are in its classes, the principal port in class 0; each port of a class node is a class by itself
abbrev pub width_at : Option OpenNode → ℕ
width_at None = 0
width_at (Some m) = elim m.node [ AgentNode y ↦ suc m.classes | ClassNode y c ↦ length m.class_of ]

abbrev pub width_of : OpenNet → ℕ → ℕ
width_of o n = width_at (slice_get o.nodes n)

abbrev pub HasClass : OpenNet → ℕ → ℕ → Type 0
HasClass o n c = c < width_of o n
