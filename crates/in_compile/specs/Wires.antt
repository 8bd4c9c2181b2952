-- The wires of a right member in two lists, in which each occurs once: those with a boundary end, and those within the agents. An
-- interaction goes through these lists. The order of the lists, and numbers for the ends of wires, are this project's own choice.
use Rattle.std.specs.Prelude.{◌&&◌, ◌||◌, ◌+◌, ◌*◌, ℕ, Bool, true, false, nat_eq, nat_lt, nat_le, List, map}
use Rattle.std.specs.List.{filter, enumerate_from, flat_map}
use Rattle.in_syntax.specs.Grammar.{max_ports}
use Rattle.in_syntax.specs.TextLimits.{most_member_agents}
use Rattle.in_net.specs.Nets.{Point, Port, Free}
use Rattle.in_compile.specs.declared.joints.Joint.{Joint}
use Rattle.in_compile.specs.declared.joints.Joint.TheVariants.{ToAgent, ToBoundary}
use Rattle.in_compile.specs.Members.{AgentParts, MemberParts}

-- ---- wires with a boundary end

-- from its boundary end the wire leads to no lower one
abbrev pub is_from_lowest : ℕ × Joint → Bool
is_from_lowest (e, ToAgent k i) = true
is_from_lowest (e, ToBoundary d) = nat_le e d

-- the wires with a boundary end, each by its lowest one and its other end, in the order of these boundary ends
abbrev pub over_of : MemberParts → List (ℕ × Joint)
over_of m = filter is_from_lowest (enumerate_from 0 m.joints)

-- ---- wires within the agents

-- the wire joins two places of agents, of which this is the first
abbrev pub is_from_first : Joint × Joint → Bool
is_from_first (ToAgent k i, ToAgent l j) = nat_lt k l || (nat_eq k l && nat_lt i j)
is_from_first (ToAgent k i, ToBoundary e) = false
is_from_first (ToBoundary e, j) = false

-- the places of agent k, each with the other end of its wire
abbrev pub wires_at : ℕ × AgentParts → List (Joint × Joint)
wires_at (k, a) = map (λ x. (ToAgent k x.0, x.1)) (enumerate_from 0 a.ends)

-- the wires within the agents, each from its first place, in the order of these places
abbrev pub within_of : MemberParts → List (Joint × Joint)
within_of m = filter is_from_first (flat_map wires_at (enumerate_from 0 m.agents))

-- ---- as points of nets

abbrev pub point_at : Joint → Point ℕ
point_at (ToAgent k i) = Port k i
point_at (ToBoundary e) = Free e

abbrev pub over_point : ℕ × Joint → ℕ × Point ℕ
over_point w = (w.0, point_at w.1)

abbrev pub both_points : Joint × Joint → Point ℕ × Point ℕ
both_points w = (point_at w.0, point_at w.1)

-- ---- as numbers

-- the first slots are for boundary ends, which are places of a pair, and the others for agents
abbrev pub first_agent_slot : ℕ
first_agent_slot = 2 * max_ports

abbrev pub slots : ℕ
slots = first_agent_slot + most_member_agents

-- a joint's slot, and the place in it
abbrev pub slot_of : Joint → ℕ
slot_of (ToAgent k i) = first_agent_slot + k
slot_of (ToBoundary e) = e

abbrev pub place_in : Joint → ℕ
place_in (ToAgent k i) = i
place_in (ToBoundary e) = 0
