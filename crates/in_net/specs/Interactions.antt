-- The net after an interaction. Lafont 1990: two agents whose principal ports are joined by a wire are an active pair. Only active
-- pairs interact: both agents go, and the rule's right member takes their place on the same boundary ends. The agents that stay keep
-- their names, and new ones have any names that the net doesn't have: this is this project's own choice.
use Rattle.std.specs.Prelude.{◌≡◌, ◌≢◌, ◌⊎◌, ◌↔◌, ℕ, suc, ◌+◌, ◌-◌, nat_lt, Bool, cond, List, [], ◌∷◌, length, slice_get, Some, None}
use mathlib.Core.Logic.{inl, inr}
use Rattle.in_symbols.specs.declared.symbols.PortType.{PortType}
use Rattle.in_base.specs.Graphs.{Graph}
use Rattle.in_net.specs.Graphs.{class_of_symbol}
use Rattle.in_net.specs.Nets.{Point, Port, Free, Signature, Net, net_of}
use Rattle.in_net.specs.Rules.{RuleParts}

-- an active pair with its symbols, and the right member of their rule
pub record Redex (A B : Type 0) : Type 0 where
  pub one : A
  pub two : A
  pub first : ℕ
  pub second : ℕ
  pub member : Net B

-- two agents with the symbols of the rule's heads, and its right member
abbrev pub redex_at : {A : Type 0} → RuleParts → A → A → Redex A ℕ
redex_at r a b = record { one = a; two = b; first = r.heads.0.0; second = r.heads.1.0; member = net_of r.member }

-- the agent, the symbol and the place of a free end: the first agent's places are numbered first
module _ {A B : Type 0} (sig : Signature) (x : Redex A B) (end : ℕ) where
  abbrev pub of_first : Bool
  of_first = nat_lt end (sig.arity x.first)

  abbrev pub end_agent : A
  end_agent = cond of_first x.one x.two

  abbrev pub end_symbol : ℕ
  end_symbol = cond of_first x.first x.second

  abbrev pub end_place : ℕ
  end_place = cond of_first (suc end) (suc (end - sig.arity x.first))

-- the two agents are an active pair of the net, and the free ends of the right member are their auxiliary places, declared with their types
pub record IsRedex {A B : Type 0} (sig : Signature) (n : Net A) (x : Redex A B) : Type 0 where
  pub one : n.symbol x.one ≡ Some x.first
  pub two : n.symbol x.two ≡ Some x.second
  pub differ : x.one ≢ x.two
  pub active : n.partner (Port x.one 0) ≡ Some (Port x.two 0)
  pub ends : length x.member.free ≡ sig.arity x.first + sig.arity x.second
  pub declared : (e : ℕ) (t : PortType) → slice_get x.member.free e ≡ Some t → t ≡ sig.type_of (end_symbol sig x e) (end_place sig x e)

-- the net round the active pair, and the right member of its rule
pub data Side : Type 0 where
  Outer : Side
  Inner : Side

abbrev pub other : Side → Side
other Outer = Inner
other Inner = Outer

-- a wire, or wires that change sides at each of these ends in turn
abbrev pub Alternates : {P : Type 0} → (Side → P → P → Type 0) → (P → Type 0) → Side → P → List P → P → Type 0
Alternates wire IsEnd side u [] v = wire side u v
Alternates wire IsEnd side u (e ∷ es) v = wire side u e × IsEnd e × Alternates wire IsEnd (other side) e es v

-- the point of the net for a point of the right member: a new agent's port, or an auxiliary port of the pair
abbrev pub stands_for : {A B : Type 0} → Signature → Redex A B → (B → A) → Point B → Point A
stands_for sig x name (Port k i) = Port (name k) i
stands_for sig x name (Free e) = Port (end_agent sig x e) (end_place sig x e)

-- a wire of the right member
abbrev pub InnerWire : {A B : Type 0} → Signature → Redex A B → (B → A) → Point A → Point A → Type 0
InnerWire {A} {B} sig x name u v = (p q : Point B) × (stands_for sig x name p ≡ u) × (stands_for sig x name q ≡ v) × (x.member.partner p ≡ Some q)

-- the wires of the net before, and those of the right member
abbrev pub wire_of : {A B : Type 0} → Signature → Net A → Redex A B → (B → A) → Side → Point A → Point A → Type 0
wire_of sig n x name Outer u v = n.partner u ≡ Some v
wire_of sig n x name Inner u v = InnerWire sig x name u v

-- a port of the active pair
abbrev pub IsOfPair : {A B : Type 0} → Redex A B → Point A → Type 0
IsOfPair x (Port y i) = (y ≡ x.one) ⊎ (y ≡ x.two)
IsOfPair x (Free k) = ⊥

-- an alternating path that goes through ports of the pair, from a side on
abbrev pub PairPath : {A B : Type 0} → Signature → Net A → Redex A B → (B → A) → Side → Point A → List (Point A) → Point A → Type 0
PairPath sig n x name = Alternates (wire_of sig n x name) (IsOfPair x)

-- joined by such a path
abbrev pub AreJoined : {A B : Type 0} → Signature → Net A → Redex A B → (B → A) → Point A → Point A → Type 0
AreJoined {A} {B} sig n x name u v = (IsOfPair x u → ⊥) × (IsOfPair x v → ⊥) × ((side : Side) × (es : List (Point A)) × PairPath sig n x name side u es v)

-- the new agents have different names, which the net doesn't have
pub record IsNaming {A B : Type 0} (before : Net A) (x : Redex A B) (name : B → A) : Type 0 where
  pub fresh : (k : B) (s : ℕ) → x.member.symbol k ≡ Some s → before.symbol (name k) ≡ None
  pub apart : (k l : B) (s t : ℕ) → x.member.symbol k ≡ Some s → x.member.symbol l ≡ Some t → name k ≡ name l → k ≡ l

-- the pair is gone, the new agents are there, and the others are unchanged
abbrev pub HasAgentsAfter : {A B : Type 0} → Net A → Redex A B → (B → A) → Net A → Type 0
HasAgentsAfter {A} {B} before x name after = (y : A) (s : ℕ) → (after.symbol y ≡ Some s) ↔ (((y ≢ x.one) × (y ≢ x.two) × (before.symbol y ≡ Some s)) ⊎ ((k : B) × (name k ≡ y) × (x.member.symbol k ≡ Some s)))

-- the net after the interaction: without the pair and with the right member's agents, its wires the alternating paths between points
-- that stay. A single wire is such a path
pub record IsStep {A B : Type 0} (sig : Signature) (before : Net A) (x : Redex A B) (name : B → A) (after : Net A) : Type 0 where
  pub naming : IsNaming before x name
  pub agents : HasAgentsAfter before x name after
  pub wires : (u v : Point A) → (after.partner u ≡ Some v) ↔ AreJoined sig before x name u v
  pub free : after.free ≡ before.free

-- the node of a boundary end, where the right member has a node for each class of the two symbols, each of whose ports is a class by itself:
-- this project's own condition on rules uses it
abbrev pub class_node : {A B : Type 0} → Signature → Redex A B → ℕ → Bool × ℕ
class_node sig x e = (of_first sig x e, sig.class_of (end_symbol sig x e) (end_place sig x e))

abbrev pub open_port : {A B : Type 0} → Signature → Redex A B → Point B → (B ⊎ (Bool × ℕ)) × ℕ
open_port sig x (Port y i) = (inl y, i)
open_port sig x (Free e) = (inr (class_node sig x e), e)

abbrev pub open_member : {A B : Type 0} → Signature → Redex A B → Graph
open_member {A} {B} sig x = record {
  Node = B ⊎ (Bool × ℕ);
  class = λ m i. elim m [ inl y ↦ class_of_symbol sig (x.member.symbol y) i | inr c ↦ i ];
  Wire = λ u v. (p q : Point B) × (open_port sig x p ≡ u) × (open_port sig x q ≡ v) × (x.member.partner p ≡ Some q);
}

-- the wires of the net before, and those of the right member, between boundary ends
abbrev pub EndWire : {A B : Type 0} → Signature → Net A → Redex A B → Side → ℕ → ℕ → Type 0
EndWire sig n x Outer e f = n.partner (Port (end_agent sig x e) (end_place sig x e)) ≡ Some (Port (end_agent sig x f) (end_place sig x f))
EndWire sig n x Inner e f = x.member.partner (Free e) ≡ Some (Free f)

-- a wire, or wires that change sides at each of these boundary ends in turn: it leaves the first one on the first side, and enters the last
-- one on the second side
abbrev pub EndPath : (Side → ℕ → ℕ → Type 0) → Side → ℕ → List ℕ → Side → ℕ → Type 0
EndPath wire s e [] t f = (s ≡ t) × wire s e f
EndPath wire s e (g ∷ gs) t f = wire s e g × EndPath wire (other s) g gs t f

-- boundary ends that wires of alternate sides join in a cycle
pub record ClosedPath {A B : Type 0} (sig : Signature) (n : Net A) (x : Redex A B) : Type 0 where
  pub side : Side
  pub first : ℕ
  pub rest : List ℕ
  pub closed : EndPath (EndWire sig n x) side first rest (other side) first
