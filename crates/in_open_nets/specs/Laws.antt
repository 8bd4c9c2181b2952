-- The laws of open nets, over the definitions alone.
use Rattle.std.specs.Prelude.{◌≡◌, ◌⊎◌, ◌↔◌, ℕ, Bool, List, length, Option}
use Rattle.in_base.specs.Graphs.{CrossingCircle}
use Rattle.in_simple_bridges.specs.Walks.{HasTwoEnds}
use Rattle.in_open_nets.specs.declared.class_graphs.ClassGraph.{ClassGraph}
use Rattle.in_open_nets.specs.Constructions.{IsIn}
use Rattle.in_open_nets.specs.Members.{nodes_in}
use Rattle.in_open_nets.specs.Parts.{IsRest}
use Rattle.in_open_nets.specs.Splitting.{SplitsAt}
use Rattle.in_open_nets.specs.ClassEdges.{IsGraphOf, vertex_in}
use Rattle.in_open_nets.specs.ClassGraphs.{Vertex, HasClass, HubEdgesAreBridges, HubEdgesAreOffCycles, IsClassGraph, IsVertex}
use Rattle.in_open_nets.specs.OpenNets.{OpenNet, IsOpenNet, IsDerivable, NetSplits, open_graph}
use Rattle.in_open_nets.specs.Stuck.{IsFirstStuck, IsListed}
use Rattle.in_open_nets.specs.Parts.{IsFirstIn}

-- an open net splits exactly when it is derivable
abbrev pub SplitsWhereDerivable : Type 0
SplitsWhereDerivable = (o : OpenNet) → IsOpenNet o → NetSplits o ↔ IsDerivable o

-- a node splits a set of nodes exactly when each of its hub edges is a bridge of the class graph
abbrev pub SplitsByBridges : Type 0
SplitsByBridges = (o : OpenNet) → IsOpenNet o → (n : ℕ) (s : ℕ → Bool) → IsIn n s → SplitsAt (open_graph o) n s ↔ HubEdgesAreBridges (open_graph o) (HasClass o) n s

-- .. and, for the class graph as a list of edges, exactly when none of its hub edges is on a cycle
abbrev pub SplitsOffCycles : Type 0
SplitsOffCycles = (o : OpenNet) → IsOpenNet o → (s : ℕ → Bool) (number : Vertex ℕ → ℕ) (hub_edge : ℕ → ℕ → ℕ) (es : List (ℕ × ℕ)) → IsClassGraph (open_graph o) (HasClass o) s number hub_edge es →
    (n : ℕ) → IsIn n s → SplitsAt (open_graph o) n s ↔ HubEdgesAreOffCycles (open_graph o) (HasClass o) hub_edge es n

-- some edge joins these vertices
abbrev pub JoinsVertices : ClassGraph → Vertex ℕ → Vertex ℕ → Type 0
JoinsVertices g u v = (e : ℕ) × HasTwoEnds g.edges e (vertex_in g.hubs u) (vertex_in g.hubs v)

-- two class graphs of a part join the same vertices, whatever numbers these have
abbrev pub ClassGraphsAreOne : Type 0
ClassGraphsAreOne = (o : OpenNet) → IsOpenNet o → (part : List Bool) (g h : ClassGraph) → IsGraphOf o part g → IsGraphOf o part h →
    (u v : Vertex ℕ) → IsVertex (open_graph o) (HasClass o) (nodes_in part) u → IsVertex (open_graph o) (HasClass o) (nodes_in part) v → JoinsVertices g u v ↔ JoinsVertices h u v

-- a derivable open net has no crossing circle
abbrev pub DerivableHasNoCircle : Type 0
DerivableHasNoCircle = (o : OpenNet) → IsOpenNet o → IsDerivable o → CrossingCircle (open_graph o) → ⊥

-- it splits and has no first stuck sub-net, or it doesn't split and has exactly one
abbrev pub HasNoFirstStuck : OpenNet → Type 0
HasNoFirstStuck o = (t : ℕ → Bool) → IsFirstStuck o t → ⊥

abbrev pub HasOneFirstStuck : OpenNet → Type 0
HasOneFirstStuck o = (t : ℕ → Bool) × IsFirstStuck o t × ((u : ℕ → Bool) → IsFirstStuck o u → t ≡ u)

abbrev pub SplitsOrFirstStuck : Type 0
SplitsOrFirstStuck = (o : OpenNet) → IsOpenNet o → (NetSplits o × HasNoFirstStuck o) ⊎ ((NetSplits o → ⊥) × HasOneFirstStuck o)

-- ---- one result

-- a set of nodes is determined by its members and its number of tests
abbrev pub SetIsItsMembers : Type 0
SetIsItsMembers = (a b : List Bool) → length a ≡ length b → ((n : ℕ) → IsIn n (nodes_in a) ↔ IsIn n (nodes_in b)) → a ≡ b

-- the first node that splits a set of an open net's nodes is determined, and so is whether there is one
abbrev pub FirstSplittingIsOne : Type 0
FirstSplittingIsOne = (o : OpenNet) (part : List Bool) (a b : Option ℕ) → length part ≡ length o.nodes → IsFirstIn o part a → IsFirstIn o part b → a ≡ b

-- a set without a node is one set
abbrev pub RestIsOne : Type 0
RestIsOne = (n : ℕ) (part a b : List Bool) → length a ≡ length part → length b ≡ length part → IsRest n part a → IsRest n part b → a ≡ b

-- the members of a set have one list
abbrev pub MembersAreListedOnce : Type 0
MembersAreListedOnce = (set : ℕ → Bool) (a b : List ℕ) → IsListed set a → IsListed set b → a ≡ b
