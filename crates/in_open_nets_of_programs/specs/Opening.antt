-- The open net of an initial net: its agents in order are the nodes, its wires by number, and its free ends.
use Rattle.std.specs.Prelude.{◌≡◌, ◌↔◌, ℕ, ◌+◌, ◌<◌, ◌≤◌, List, length, slice_get, Some, option_map, is_some, true, IsTrue}
use Rattle.std.specs.List.{AllByRecursion}
use Rattle.in_syntax.specs.declared.symbol_no.SymbolNo.{SymbolNo}
use Rattle.in_symbols.specs.Tables.{Tables, arity_of, class_at, classes_of}
use Rattle.in_net.specs.Built.{IsOver}
use Rattle.in_net.specs.declared.nets.Point as points
use Rattle.in_net.specs.declared.nets.Point.TheVariants as point
use Rattle.in_net.specs.Parts.{Parts, symbol_in, agent_place_in, wire_in}
use Rattle.in_open_nets.specs.declared.open_nets.Node.TheVariants.{AgentNode}
use Rattle.in_open_nets.specs.declared.open_nets.OpenNode.{OpenNode}
use Rattle.in_open_nets.specs.declared.open_nets.OpenPoint.{OpenPoint}
use Rattle.in_open_nets.specs.declared.open_nets.OpenPoint.TheVariants.{Port, Free}
use Rattle.in_open_nets.specs.OpenNets.{OpenNet}

-- no number is without an agent, as if no interaction happened
abbrev pub AreAllThere : Parts → Type 0
AreAllThere n = AllByRecursion (λ c. is_some c ≡ true) n.cells

-- a net or a right member with the tables of its symbols, over which it was built
pub record Member : Type 0 where
  pub tables : Tables
  pub net : Parts

pub record IsBuiltOver (t : Tables) (n : Parts) : Type 0 where
  pub over : IsOver t n
  pub built : IsTrue n.built
  pub there : AreAllThere n

-- each element has P at its number
abbrev pub Each : {X : Type 0} → (ℕ → X → Type 0) → List X → Type 0
Each {X} P xs = (i : ℕ) (x : X) → slice_get xs i ≡ Some x → P i x

-- the classes of the symbol's places, the principal port first
abbrev pub AreClassesOf : Tables → SymbolNo → List ℕ → Type 0
AreClassesOf t s cs = (length cs ≡ arity_of t s.0 + 1) × Each (λ i c. c ≡ class_at t s.0 i) cs

-- the node is the agent of that number: its symbol, its place in the text, and the classes of its symbol
pub record IsNodeOf (t : Tables) (n : Parts) (x : ℕ) (m : OpenNode) : Type 0 where
  pub symbol : SymbolNo
  pub here : symbol_in n x ≡ Some symbol
  pub node : m.node ≡ AgentNode symbol
  pub place : agent_place_in n x ≡ Some m.place
  pub classes : m.classes ≡ classes_of t symbol.0
  pub ports : AreClassesOf t symbol m.class_of

-- a point of the net as one of the open net: an agent's node has its number
abbrev pub open_point : points.Point → OpenPoint
open_point (point.Port x i) = Port x.0 i
open_point (point.Free k) = Free k

abbrev pub open_wire : points.Point × points.Point → OpenPoint × OpenPoint
open_wire w = (open_point w.0, open_point w.1)

abbrev pub AreNodesOf : Tables → Parts → List OpenNode → Type 0
AreNodesOf t n nodes = (length nodes ≡ length n.cells) × Each (IsNodeOf t n) nodes

abbrev pub AreWiresOf : Parts → List (OpenPoint × OpenPoint) → Type 0
AreWiresOf n wires = (length wires ≡ length n.wires) × Each (λ w v. option_map open_wire (wire_in n w) ≡ Some v) wires

-- the principal port of a symbol is the one place of class 0, and classes count from 1 to their number, in the order of the places
pub record AreNumbered (t : Tables) : Type 0 where
  pub principal : (s i : ℕ) → i ≤ arity_of t s → (class_at t s i ≡ 0) ↔ (i ≡ 0)
  pub most : (s i : ℕ) → i ≤ arity_of t s → class_at t s i ≤ classes_of t s
  pub ordered : (s i j : ℕ) → 0 < i → i ≤ j → j ≤ arity_of t s → class_at t s i ≤ class_at t s j

-- the open net of the net
pub record Opens (t : Tables) (n : Parts) (o : OpenNet) : Type 0 where
  pub nodes : AreNodesOf t n o.nodes
  pub wires : AreWiresOf n o.wires
  pub free : o.free ≡ length n.free
