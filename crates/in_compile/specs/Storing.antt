-- How members and templates are stored: no contract of a public call speaks of it. This project's own choice.
use Rattle.std.specs.Prelude.{◌≡◌, ◌≢◌, ◌≤◌, ◌<◌, ◌+◌, ◌-◌, ◌^◌, ◌*◌, ℕ, nat_eq, nat_lt, cond, true, List, ◌∷◌, [], ◌++◌, length, take, drop, map, Some, slice_get}
use Rattle.in_symbols.specs.Tables.{Tables}
use Rattle.in_net.specs.declared.nets.Cell.{Cell}
use Rattle.in_net.specs.declared.nets.Point.{Point}
use Rattle.in_net.specs.declared.nets.Point.TheVariants.{Port, Free}
use Rattle.in_syntax.specs.TextLimits.{most_member_agents}
use Rattle.in_net.specs.Parts.{Parts}
use Rattle.in_syntax.specs.Grammar.{max_ports}
use Rattle.in_compile.specs.declared.joints.Joint.{Joint}
use Rattle.in_compile.specs.declared.joints.Joint.TheVariants.{ToAgent, ToBoundary}
use Rattle.in_arena.specs.declared.head.NewCell.{NewCell}
use Rattle.in_compile.specs.Cells.{is_of}
use Rattle.in_compile.specs.Members.{AgentParts, MemberParts, joint_of}
use Rattle.in_compile.specs.Wires.{first_agent_slot, slots}

-- ---- joints in two words

-- this number, in the place of a place's number, means that the joint leads to a boundary end
abbrev pub at_boundary : ℕ
at_boundary = 4294967295

abbrev pub joint_from : ℕ → ℕ → Joint
joint_from number place = cond (nat_eq place at_boundary) (ToBoundary number) (ToAgent number place)

-- numbers of places fit a byte, and those of boundary ends two
abbrev pub FitsJoint : ℕ → ℕ → Type 0
FitsJoint number place = (place ≡ at_boundary → number < 2 ^ 16) × (place ≢ at_boundary → place < 2 ^ 8)

abbrev pub IsNarrow : Point → Type 0
IsNarrow (Port x i) = Unit {0}
IsNarrow (Free e) = e < 2 ^ 16

abbrev pub AreNarrow : List Point → Type 0
AreNarrow ps = (k : ℕ) (q : Point) → slice_get ps k ≡ Some q → IsNarrow q

-- ---- agents, and all joints of a member in one list, those of the boundary ends first

-- an agent's joints are in a row
abbrev pub ends_from : List Joint → NewCell → List Joint
ends_from joints a = take a.head.count (drop a.mark joints)

abbrev pub agent_from : List Joint → NewCell → AgentParts
agent_from joints a = record { symbol = record { 0 = a.head.word }; class = a.class; ends = ends_from joints a }

abbrev pub agents_from : List Joint → List NewCell → List AgentParts
agents_from joints agents = map (agent_from joints) agents

-- the joints of the agents are in the list, and numbers fit
pub record IsLaidOut (agents : List NewCell) (joints : List Joint) (boundary : ℕ) (pairs : List (ℕ × ℕ)) : Type 0 where
  pub ends : boundary ≤ length joints
  pub places : (k : ℕ) (a : NewCell) → slice_get agents k ≡ Some a → a.mark + a.head.count ≤ length joints
  pub few : length agents < 2 ^ 32
  pub few_ends : boundary < 2 ^ 16
  pub few_pairs : length pairs < 2 ^ 32

-- a right member's boundary ends and its agents are few
abbrev pub IsSmallMember : MemberParts → Type 0
IsSmallMember m = (length m.joints ≤ first_agent_slot) × (length m.agents ≤ most_member_agents)

-- ---- joints of a right member by slots

abbrev pub joint_at_slot : ℕ → ℕ → Joint
joint_at_slot slot place = cond (nat_lt slot first_agent_slot) (ToBoundary slot) (ToAgent (slot - first_agent_slot) place)

-- the slot is below the number of slots, and a boundary end has one place
abbrev pub FitsSlot : ℕ → ℕ → Type 0
FitsSlot slot place = (slot < slots) × (place ≤ max_ports) × (slot < first_agent_slot → place ≡ 0)

abbrev pub IsSmallJoint : Joint → Type 0
IsSmallJoint (ToAgent k i) = (k < most_member_agents) × (i ≤ max_ports)
IsSmallJoint (ToBoundary e) = e < first_agent_slot

-- ---- the parts that compiling adds

-- this stored agent has the symbol and places of that agent of a net, and its joints lead where that agent's ends do
pub record IsAgentOf (t : Tables) (joints : List Joint) (c : Cell) (a : NewCell) : Type 0 where
  pub symbol : a.head.word ≡ c.symbol.0
  pub class : is_of t a.class c.symbol.0 ≡ true
  pub within : a.mark + a.head.count ≤ length joints
  pub ends : ends_from joints a ≡ map joint_of c.ends

-- one more agent, with its joints
pub record AddsAgent (t : Tables) (c : Cell) (agents : List NewCell) (joints : List Joint) (more : List NewCell) (longer : List Joint) : Type 0 where
  pub agent : NewCell
  pub added : more ≡ agents ++ agent ∷ []
  pub of : IsAgentOf t longer c agent
  pub joints_are : longer ≡ joints ++ map joint_of c.ends

-- the first x agents of the net, with their joints after those of the boundary ends
pub record AreLaidBelow (t : Tables) (n : Parts) (x : ℕ) (agents : List NewCell) (joints : List Joint) : Type 0 where
  pub count : length agents ≡ x
  pub rest : List Joint
  pub ends : joints ≡ map (λ f. joint_of f.end) n.free ++ rest
  pub each : (k : ℕ) (a : NewCell) → slice_get agents k ≡ Some a → (c : Cell) × (slice_get n.cells k ≡ Some (Some c)) × IsAgentOf t joints c a
  pub long : length joints ≤ length n.free + (max_ports + 1) * x
