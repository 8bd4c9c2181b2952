-- Open nets: nodes in order, wires by number, free ends. An agent of a net is a node of it, and so is each class of a rule's
-- heads: Lafont 1990 has a right member simple for the classes of its left symbols; the class nodes are this project's own way to
-- say it.
use Rattle.std.specs.Prelude.{◌+◌, ◌≡◌, ◌≢◌, ◌⊎◌, ◌↔◌, ℕ, ◌<◌, ◌≤◌, ◌^◌, Bool, List, length, slice_get, get_or, Option, Some, None, IsSomeAnd, option_map}
use Rattle.in_syntax.specs.declared.places.Place.{Place}
use Rattle.in_base.specs.Graphs.{Graph}
use Rattle.in_open_nets.specs.declared.open_nets.Node.{Node}
use Rattle.in_open_nets.specs.declared.open_nets.Node.TheVariants.{AgentNode, ClassNode}
use Rattle.in_open_nets.specs.declared.open_nets.OpenNode.{OpenNode}
use Rattle.in_open_nets.specs.declared.open_nets.OpenPoint.{OpenPoint}
use Rattle.in_open_nets.specs.declared.open_nets.OpenPoint.TheVariants.{Port, Free}
use Rattle.in_open_nets.specs.Constructions.{IsIn, Built}
use Rattle.in_open_nets.specs.Splitting.{Splits}
use Rattle.in_syntax.specs.Grammar.{max_ports}

-- the nodes in order, each wire by its two points, and the number of free ends. A node is known by its place in the list
pub record OpenNet : Type 0 where
  pub nodes : List OpenNode
  pub wires : List (OpenPoint × OpenPoint)
  pub free : ℕ

-- the open net of these parts
abbrev pub open_of : List OpenNode → List (OpenPoint × OpenPoint) → ℕ → OpenNet
open_of nodes wires free = record { nodes = nodes; wires = wires; free = free }

-- a set of a net's nodes, by a test
abbrev pub NodeTest : Type 0
NodeTest = ℕ → Bool

abbrev pub IsNode : OpenNet → ℕ → Type 0
IsNode o n = n < length o.nodes

abbrev pub IsAgentNode : OpenNode → Type 0
IsAgentNode m = elim m.node [ AgentNode y ↦ Unit {0} | ClassNode y c ↦ ⊥ ]

abbrev pub IsClassNode : OpenNode → Type 0
IsClassNode m = elim m.node [ AgentNode y ↦ ⊥ | ClassNode y c ↦ Unit {0} ]

abbrev pub IsAgent : OpenNet → ℕ → Type 0
IsAgent o n = IsSomeAnd (slice_get o.nodes n) IsAgentNode

abbrev pub IsClass : OpenNet → ℕ → Type 0
IsClass o n = IsSomeAnd (slice_get o.nodes n) IsClassNode

-- an agent's places are in its symbol's classes, the principal port in class 0; each port of a class node is a class by itself
abbrev pub class_at : Option OpenNode → ℕ → ℕ
class_at None i = 0
class_at (Some m) i = elim m.node [ AgentNode y ↦ get_or m.class_of i 0 | ClassNode y c ↦ i ]

abbrev pub class_in : OpenNet → ℕ → ℕ → ℕ
class_in o n i = class_at (slice_get o.nodes n) i

-- how many classes the auxiliary places of a node are in
abbrev pub classes_of : OpenNet → ℕ → ℕ
classes_of o n = elim (slice_get o.nodes n) [ None ↦ 0 | Some m ↦ m.classes ]

abbrev pub IsOpenPoint : OpenNet → OpenPoint → Type 0
IsOpenPoint o (Port n i) = IsSomeAnd (slice_get o.nodes n) (λ m. i < length m.class_of)
IsOpenPoint o (Free k) = k < o.free

-- wire w has the points p and q
abbrev pub IsWire : OpenNet → ℕ → OpenPoint → OpenPoint → Type 0
IsWire o w p q = (slice_get o.wires w ≡ Some (p, q)) ⊎ (slice_get o.wires w ≡ Some (q, p))

-- each point is in exactly one wire, and an agent's principal port is the one place of class 0
pub record IsOpenNet (o : OpenNet) : Type 0 where
  pub points : (w : ℕ) (p q : OpenPoint) → IsWire o w p q → IsOpenPoint o p
  pub joined : (p : OpenPoint) → IsOpenPoint o p → (w : ℕ) × (q : OpenPoint) × IsWire o w p q
  pub once : (w v : ℕ) (p q r : OpenPoint) → IsWire o w p q → IsWire o v p r → (w ≡ v) × (q ≡ r)
  pub apart : (w : ℕ) (p q : OpenPoint) → IsWire o w p q → p ≢ q
  pub principal : (n i : ℕ) → IsAgent o n → IsOpenPoint o (Port n i) → (class_in o n i ≡ 0) ↔ (i ≡ 0)
  pub classes : (n i : ℕ) → IsAgent o n → IsOpenPoint o (Port n i) → class_in o n i ≤ classes_of o n

abbrev pub ports_in : Option OpenNode → ℕ
ports_in None = 0
ports_in (Some m) = length m.class_of

-- it is an open net, its numbers are as small as those of a net, and an agent's classes are in order
pub record IsOrderly (o : OpenNet) : Type 0 where
  pub nodes : length o.nodes < 2 ^ 32
  pub wires : length o.wires < 2 ^ 32
  pub ports : (n : ℕ) → ports_in (slice_get o.nodes n) ≤ max_ports + 1
  pub net : IsOpenNet o
  pub ordered : (n i j : ℕ) → IsAgent o n → IsOpenPoint o (Port n j) → 0 < i → i ≤ j → class_in o n i ≤ class_in o n j

-- the nodes, the classes of their ports, and the wires between them
abbrev pub open_graph : OpenNet → Graph
open_graph o = record { Node = ℕ; class = class_in o; Wire = λ u v. (w : ℕ) × IsWire o w (Port u.0 u.1) (Port v.0 v.1) }

-- all its nodes together are built by the constructions, each once
abbrev pub IsDerivable : OpenNet → Type 0
IsDerivable o = (s : NodeTest) × ((n : ℕ) → IsIn n s ↔ IsNode o n) × Built (open_graph o) (IsAgent o) (classes_of o) s

-- some node splits it, and without the first such node each component splits
abbrev pub NetSplits : OpenNet → Type 0
NetSplits o = (s : NodeTest) × ((n : ℕ) → IsIn n s ↔ IsNode o n) × Splits (open_graph o) (λ m n. m < n) s

-- ---- the results of the accessors

abbrev pub node_in : OpenNet → ℕ → Option Node
node_in o n = option_map (λ m. m.node) (slice_get o.nodes n)

abbrev pub node_place_in : OpenNet → ℕ → Option Place
node_place_in o n = option_map (λ m. m.place) (slice_get o.nodes n)
