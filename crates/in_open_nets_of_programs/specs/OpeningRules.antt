-- The open net of a rule: its right member with a node for each class of its two heads, whose ports are the boundary ends of the class.
-- Lafont 1990 has a right member simple for the classes of its left symbols; the class nodes, and that each of their ports is a class
-- by itself, are this project's own way to say it.
use Rattle.std.specs.Prelude.{◌≡◌, ◌^◌, ℕ, zero, suc, ◌+◌, ◌-◌, ◌<◌, ◌≤◌, nat_lt, nat_eq, cond, not, Bool, List, length, count_by, option_map, Some}
use Rattle.in_syntax.specs.declared.places.Place.{Place}
use Rattle.in_syntax.specs.declared.symbol_no.SymbolNo.{SymbolNo}
use Rattle.in_symbols.specs.Tables.{Tables, arity_of, class_at, classes_of}
use Rattle.in_net.specs.declared.nets.Point as points
use Rattle.in_net.specs.declared.nets.Point.TheVariants as point
use Rattle.in_net.specs.Parts.{wire_in}
use Rattle.in_syntax.specs.TextLimits.{most_member_agents}
use Rattle.in_net.specs.Rules.{IsRuleOver, RuleParts}
use Rattle.in_open_nets.specs.declared.open_nets.Node.TheVariants.{ClassNode}
use Rattle.in_open_nets.specs.declared.open_nets.OpenNode.{OpenNode}
use Rattle.in_open_nets.specs.declared.open_nets.OpenPoint.{OpenPoint}
use Rattle.in_open_nets.specs.declared.open_nets.OpenPoint.TheVariants.{Port}
use Rattle.in_open_nets.specs.OpenNets.{OpenNet}
use Rattle.in_open_nets_of_programs.specs.Opening.{AreAllThere, AreNumbered, Each, IsNodeOf}

-- how many of the places 1 to n of a symbol are in a class
abbrev pub places_in : Tables → ℕ → ℕ → ℕ → ℕ
places_in t s c zero = 0
places_in t s c (suc n) = places_in t s c n + cond (nat_eq (class_at t s (suc n)) c) 1 0

-- the node of a class of a head: as many ports as the symbol has places in the class, and each of them a class by itself, of its number
pub record IsClassNodeOf (t : Tables) (s : SymbolNo) (place : Place) (c : ℕ) (m : OpenNode) : Type 0 where
  pub node : m.node ≡ ClassNode s c
  pub place_is : m.place ≡ place
  pub ports : length m.class_of ≡ places_in t s.0 c (arity_of t s.0)
  pub classes : m.classes ≡ places_in t s.0 c (arity_of t s.0)
  pub numbers : Each (λ i k. k ≡ i) m.class_of

-- how many agents come before the second head
abbrev pub agents_before : RuleParts → ℕ
agents_before p = count_by (λ q. nat_lt q.from p.head_places.1.from) p.member.places

-- nodes are in the order of their tokens: the classes of the first head, its agents, the classes of the second head, and its agents
abbrev pub agent_node : Tables → RuleParts → ℕ → ℕ
agent_node t p x = cond (nat_lt x (agents_before p)) (classes_of t p.written.0.0 + x) (classes_of t p.written.0.0 + (classes_of t p.written.1.0 + x))

-- the first class node of the head that is written second
abbrev pub second_node : Tables → RuleParts → ℕ
second_node t p = classes_of t p.written.0.0 + agents_before p

-- the port of a class node that is the boundary end at a place of a symbol, whose first class node has that number
abbrev pub class_port : Tables → ℕ → ℕ → ℕ → OpenPoint
class_port t s first i = Port (first + (class_at t s i - 1)) (places_in t s (class_at t s i) (i - 1))

-- the first of the two `heads` is written second
abbrev pub is_turned : RuleParts → Bool
is_turned p = not (nat_eq p.heads.0.0 p.written.0.0)

-- boundary ends are numbered with the places of the first of the two `heads` first; `turned` says that it is written second
abbrev pub boundary_port : Tables → RuleParts → Bool → ℕ → OpenPoint
boundary_port t p turned k =
    let c = p.heads.0.0 in
    let d = p.heads.1.0 in
    cond (nat_lt k (arity_of t c)) (class_port t c (cond turned (second_node t p) 0) (k + 1)) (class_port t d (cond turned 0 (second_node t p)) (k - arity_of t c + 1))

abbrev pub rule_point : Tables → RuleParts → Bool → points.Point → OpenPoint
rule_point t p turned (point.Port x i) = Port (agent_node t p x.0) i
rule_point t p turned (point.Free k) = boundary_port t p turned k

abbrev pub rule_wire : Tables → RuleParts → Bool → points.Point × points.Point → OpenPoint × OpenPoint
rule_wire t p turned w = (rule_point t p turned w.0, rule_point t p turned w.1)

-- the node of that number: a class of the first head, a class of the second head, or an agent
pub record IsRuleNode (t : Tables) (p : RuleParts) (n : ℕ) (m : OpenNode) : Type 0 where
  pub first : n < classes_of t p.written.0.0 → IsClassNodeOf t p.written.0 p.head_places.0 (n + 1) m
  pub second : (c : ℕ) → c < classes_of t p.written.1.0 → n ≡ second_node t p + c → IsClassNodeOf t p.written.1 p.head_places.1 (c + 1) m
  pub agent : (x : ℕ) → x < length p.member.cells → n ≡ agent_node t p x → IsNodeOf t p.member x m

abbrev pub rule_nodes : Tables → RuleParts → ℕ
rule_nodes t p = classes_of t p.written.0.0 + (classes_of t p.written.1.0 + length p.member.cells)

abbrev pub AreRuleNodes : Tables → RuleParts → List OpenNode → Type 0
AreRuleNodes t p nodes = (length nodes ≡ rule_nodes t p) × Each (IsRuleNode t p) nodes

abbrev pub AreRuleWires : Tables → RuleParts → List (OpenPoint × OpenPoint) → Type 0
AreRuleWires t p wires = (length wires ≡ length p.member.wires) × Each (λ w v. option_map (rule_wire t p (is_turned p)) (wire_in p.member w) ≡ Some v) wires

-- the open net of a rule: it has no free ends
pub record OpensRule (t : Tables) (p : RuleParts) (o : OpenNet) : Type 0 where
  pub nodes : AreRuleNodes t p o.nodes
  pub wires : AreRuleWires t p o.wires
  pub free : o.free ≡ 0

-- the heads are the written ones, the right member's free ends are their auxiliary places, and its agents are all there and no
-- more than a right member may have. The rule of a text is such a rule
pub record IsRuleWhole (t : Tables) (p : RuleParts) : Type 0 where
  pub heads : p.heads ≡ cond (is_turned p) (p.written.1, p.written.0) p.written
  pub ends : length p.member.free ≡ arity_of t p.heads.0.0 + arity_of t p.heads.1.0
  pub there : AreAllThere p.member
  pub few : length p.member.cells ≤ most_member_agents

-- ---- the numbers of nodes

pub record LaidOut : Type 0 where
  pub tables : Tables
  pub rule : RuleParts

pub record IsLayoutOf (t : Tables) (p : RuleParts) (first before second : ℕ) : Type 0 where
  pub over : IsRuleOver t p
  pub whole : IsRuleWhole t p
  pub numbered : AreNumbered t
  pub first_is : first ≡ classes_of t p.written.0.0
  pub before_is : before ≡ agents_before p
  pub second_is : second ≡ classes_of t p.written.1.0
  pub few : (first < 2 ^ 8) × (second < 2 ^ 8) × (before ≤ length p.member.cells)
