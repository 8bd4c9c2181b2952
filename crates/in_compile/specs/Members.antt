-- Members, which are placed in cells: a right member of a rule, or the initial net. Lafont 1990: an interaction puts the right member
-- of a rule in the place of an active pair. That nets are compiled before a run, and in which form, is this project's own choice.
use Rattle.std.specs.Prelude.{◌≡◌, ◌≤◌, ◌<◌, ◌^◌, ℕ, Bool, nat_eq, true, List, length, Option, Some, IsSomeAnd, count_by, option_map, option_and_then, slice_get}
use Rattle.in_arena.specs.declared.content.CellClass.{CellClass}
use Rattle.in_arena.specs.Classes.{Holds, class_no}
use Rattle.in_syntax.specs.Grammar.{max_ports}
use Rattle.in_syntax.specs.declared.symbol_no.SymbolNo.{SymbolNo}
use Rattle.in_symbols.specs.Tables.{Tables}
use Rattle.in_net.specs.declared.nets.Point.{Point}
use Rattle.in_net.specs.declared.nets.Point.TheVariants.{Port, Free}
use Rattle.in_net.specs.Parts.{Parts, symbol_in, partner_in}
use Rattle.in_interaction.specs.Queues.{IsFirstQueue}
use Rattle.in_compile.specs.declared.cells.Need.{Need}
use Rattle.in_compile.specs.declared.joints.Joint.{Joint}
use Rattle.in_compile.specs.declared.joints.Joint.TheVariants.{ToAgent, ToBoundary}
use Rattle.in_compile.specs.Cells.{is_of, count_of, IsNeedOf}

-- an agent: its symbol, the class of its cell, and the other end of the wire at each of its places, the principal port first
pub record AgentParts : Type 0 where
  pub symbol : SymbolNo
  pub class : CellClass
  pub ends : List Joint

-- the agents; the other end of the wire at each boundary end; the active pairs among the agents; and the cells that all agents need
pub record MemberParts : Type 0 where
  pub agents : List AgentParts
  pub joints : List Joint
  pub pairs : List (ℕ × ℕ)
  pub need : Need

abbrev pub symbol_at : MemberParts → ℕ → Option SymbolNo
symbol_at m k = option_map (λ a. a.symbol) (slice_get m.agents k)

abbrev pub class_at : MemberParts → ℕ → Option CellClass
class_at m k = option_map (λ a. a.class) (slice_get m.agents k)

-- the number of places of an agent, the principal port among them
abbrev pub places_at : MemberParts → ℕ → Option ℕ
places_at m k = option_map (λ a. length a.ends) (slice_get m.agents k)

-- the agent exists, and has this place
abbrev pub IsPlaceOf : MemberParts → ℕ → ℕ → Type 0
IsPlaceOf m k i = IsSomeAnd (slice_get m.agents k) (λ a. i < length a.ends)

-- the other end of the wire at a place of an agent, or at a boundary end
abbrev pub joint_at : MemberParts → Joint → Option Joint
joint_at m (ToAgent k i) = option_and_then (λ a. slice_get a.ends i) (slice_get m.agents k)
joint_at m (ToBoundary e) = slice_get m.joints e

-- its place is one of the places of an agent
abbrev pub IsAtPort : Joint → Type 0
IsAtPort (ToAgent k i) = i ≤ max_ports
IsAtPort (ToBoundary e) = Unit {0}

-- ---- the member of a net

-- the joint for a point of a net: an agent of the member has the number of the net's agent, and its boundary ends are the free ends
abbrev pub joint_of : Point → Joint
joint_of (Port x i) = ToAgent x.0 i
joint_of (Free e) = ToBoundary e

-- the member is the net: the same agents, each with a cell that holds it; at each point the same wire; and its own active pairs in the
-- order of their wires
pub record IsMemberOf (t : Tables) (n : Parts) (m : MemberParts) : Type 0 where
  pub agents : (k : ℕ) → symbol_at m k ≡ symbol_in n k
  pub classes : (k : ℕ) (a : AgentParts) → slice_get m.agents k ≡ Some a → is_of t a.class a.symbol.0 ≡ true
  pub joints : (q : Point) → joint_at m (joint_of q) ≡ option_map joint_of (partner_in n q)
  pub pairs : IsFirstQueue t n m.pairs
  pub need : IsNeedOf t n.cells m.need

-- ---- each member, of any net

abbrev pub has_class : CellClass → AgentParts → Bool
has_class c a = nat_eq (class_no a.class) (class_no c)

-- each agent's cell is for its places
abbrev pub AgentsFit : MemberParts → Type 0
AgentsFit m = (k : ℕ) (a : AgentParts) → slice_get m.agents k ≡ Some a → Holds a.class (length a.ends)

-- a wire leads back from its other end
abbrev pub JointsLeadBack : MemberParts → Type 0
JointsLeadBack m = (i j : Joint) → joint_at m i ≡ Some j → joint_at m j ≡ Some i

-- each agent's cell is for its places; a wire leads back from its other end; each class has as many needed cells as agents that take one; and numbers
-- fit
pub record IsSoundMember (m : MemberParts) : Type 0 where
  pub fits : AgentsFit m
  pub back : JointsLeadBack m
  pub counts : (c : CellClass) → count_of m.need c ≡ count_by (has_class c) m.agents
  pub few : length m.agents < 2 ^ 32
