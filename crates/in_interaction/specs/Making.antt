-- How the code looks for the active pairs that an interaction makes. Words of the inner contracts of `made`.
use Rattle.std.specs.Prelude.{◌≡◌, ◌<◌, ◌≤◌, ◌*◌, ◌+◌, ◌++◌, ℕ, zero, suc, List, length, map, Option, Some, None, slice_get}
use Rattle.in_base.specs.Lists.{IsAmong}
use Rattle.in_symbols.specs.Tables.{Tables}
use Rattle.in_syntax.specs.declared.symbol_no.SymbolNo.{SymbolNo}
use Rattle.in_syntax.specs.Grammar.{max_ports}
use Rattle.in_interaction.specs.declared.making.Reached.{Reached}
use Rattle.in_interaction.specs.declared.making.Reached.TheVariants.{End, Staying}
use Rattle.in_interaction.specs.declared.making.Side as code
use Rattle.in_interaction.specs.declared.making.Side.TheVariants as code_side
use Rattle.in_net.specs.declared.nets.AgentNo.{AgentNo}
use Rattle.in_net.specs.declared.nets.Point as coded
use Rattle.in_net.specs.declared.nets.Point.TheVariants as coded_point
use Rattle.in_interaction.specs.Following.{SiteParts}
use Rattle.in_interaction.specs.Interacting.{unused, CanInteract}
use Rattle.in_net.specs.Interactions.{Side, Outer, Inner, Redex, Alternates, wire_of, IsOfPair, end_agent, end_place, redex_at}
use Rattle.in_interaction.specs.Made.{HasSymbolAfter, IsMade}
use Rattle.in_net.specs.Nets.{Point, Port, net_of, signature_of, point_of}
use Rattle.in_interaction.specs.Queues.{agents_at, both, IsFirstQueue}

abbrev pub side_of : code.Side → Side
side_of code_side.Outer = Outer
side_of code_side.Inner = Inner

abbrev pub redex_of : SiteParts → Redex ℕ ℕ
redex_of s = redex_at s.rule s.one.0 s.two.0

-- the port of the pair at this boundary end
abbrev pub end_point : Tables → SiteParts → ℕ → Point ℕ
end_point t s e = Port (end_agent (signature_of t) (redex_of s) e) (end_place (signature_of t) (redex_of s) e)

abbrev pub SiteWire : Tables → SiteParts → Side → Point ℕ → Point ℕ → Type 0
SiteWire t s = wire_of (signature_of t) (net_of s.net) (redex_of s) (unused s.net.cells)

-- a path leaves this boundary end by that side, goes through these ends, and ends at a point that stays
abbrev pub Leaves : Tables → SiteParts → Side → ℕ → List (Point ℕ) → Point ℕ → Type 0
Leaves t s side e es v = Alternates (SiteWire t s) (IsOfPair (redex_of s)) side (end_point t s e) es v × (IsOfPair (redex_of s) v → ⊥)

-- these are tables over which the two can interact
abbrev pub Over : SiteParts → Tables → Type 0
Over s t = CanInteract t s.net s.rule s.one s.two

-- the wire of a boundary end on a side leads there
abbrev pub LeadsTo : SiteParts → Side → ℕ → Reached → Type 0
LeadsTo s side e (End f) = (f < length s.rule.member.free) × ((t : Tables) → Over s t → SiteWire t s side (end_point t s e) (end_point t s f))
LeadsTo s side e (Staying p) = (t : Tables) → Over s t → SiteWire t s side (end_point t s e) (point_of p) × (IsOfPair (redex_of s) (point_of p) → ⊥)

-- no boundary end that this path goes through is lower
abbrev pub NoneLower : Tables → SiteParts → ℕ → List (Point ℕ) → Type 0
NoneLower t s e es = (d : ℕ) → IsAmong (end_point t s d) es → e ≤ d

-- the path from this boundary end ends at that point, and goes through no lower one
abbrev pub LandsAt : SiteParts → Side → ℕ → coded.Point → Type 0
LandsAt s side e p = (t : Tables) → Over s t → (es : List (Point ℕ)) × Leaves t s side e es (point_of p) × NoneLower t s e es

-- a path has one wire more than it goes through ends, and reaches each boundary end at most once from each side
abbrev pub most_wires : ℕ
most_wires = 4 * max_ports + 2

-- a path from this boundary end goes through a lower one, or is too long
abbrev pub LandsNowhere : SiteParts → Side → ℕ → Type 0
LandsNowhere s side e = (t : Tables) → Over s t → (es : List (Point ℕ)) (v : Point ℕ) → Leaves t s side e es v → length es < most_wires →
    (d : ℕ) × (d < e) × IsAmong (end_point t s d) es

abbrev pub IsLanding : SiteParts → Side → ℕ → Option coded.Point → Type 0
IsLanding s side e None = LandsNowhere s side e
IsLanding s side e (Some p) = LandsAt s side e p

-- after at least `count` wires, the path from a boundary end leaves another one, and has gone through no lower one
pub record IsOnWay (s : SiteParts) (side : Side) (e : ℕ) (by : Side) (at count : ℕ) : Type 0 where
  pub within : at < length s.rule.member.free
  pub ahead : (t : Tables) → Over s t → (es : List (Point ℕ)) (v : Point ℕ) → Leaves t s side e es v →
      (fs : List (Point ℕ)) × Leaves t s by at fs v × (length fs + count ≤ length es) × ((p : Point ℕ) → IsAmong p fs → IsAmong p es)
  pub behind : (t : Tables) → Over s t → (fs : List (Point ℕ)) (v : Point ℕ) → Leaves t s by at fs v → NoneLower t s e fs →
      (es : List (Point ℕ)) × Leaves t s side e es v × NoneLower t s e es

-- the agent with this principal port
abbrev pub principal_of : coded.Point → Option AgentNo
principal_of (coded_point.Port x zero) = Some x
principal_of (coded_point.Port x (suc i)) = None
principal_of (coded_point.Free k) = None

-- an agent's symbol after the interaction, if it is there
abbrev pub IsSymbolAfter : SiteParts → AgentNo → Option SymbolNo → Type 0
IsSymbolAfter s y None = (z : SymbolNo) → HasSymbolAfter s.net s.rule s.one s.two (unused s.net.cells) y z → ⊥
IsSymbolAfter s y (Some z) = HasSymbolAfter s.net s.rule s.one s.two (unused s.net.cells) y z

-- the one pair whose lowest boundary end this is, if there is one
abbrev pub IsPairAtEnd : Tables → SiteParts → ℕ → Option (AgentNo × AgentNo) → Type 0
IsPairAtEnd t s e None = (q : AgentNo × AgentNo) → IsMade t s.net s.rule s.one s.two (unused s.net.cells) e q → ⊥
IsPairAtEnd t s e (Some p) = IsMade t s.net s.rule s.one s.two (unused s.net.cells) e p × ((q : AgentNo × AgentNo) → IsMade t s.net s.rule s.one s.two (unused s.net.cells) e q → q ≡ p)

-- the pairs that are made with lowest boundary ends below this one, in their order
pub record AreMadeBelow (t : Tables) (s : SiteParts) (end : ℕ) (qs : List (AgentNo × AgentNo)) : Type 0 where
  pub each : (k : ℕ) (q : AgentNo × AgentNo) → slice_get qs k ≡ Some q → (e : ℕ) × (e < end) × IsMade t s.net s.rule s.one s.two (unused s.net.cells) e q
  pub all : (e : ℕ) (q : AgentNo × AgentNo) → e < end → IsMade t s.net s.rule s.one s.two (unused s.net.cells) e q → (k : ℕ) × (slice_get qs k ≡ Some q)
  pub rising : (j k d e : ℕ) (p q : AgentNo × AgentNo) → j < k → slice_get qs j ≡ Some p → slice_get qs k ≡ Some q →
      IsMade t s.net s.rule s.one s.two (unused s.net.cells) d p → IsMade t s.net s.rule s.one s.two (unused s.net.cells) e q → d < e

-- two agents of the right member under the numbers that they get
abbrev pub renumbered : SiteParts → ℕ × ℕ → AgentNo × AgentNo
renumbered s q = agents_at (both (unused s.net.cells) q)

-- the right member's own pairs come after the earlier ones
abbrev pub AddsOwn : Tables → SiteParts → List (AgentNo × AgentNo) → List (AgentNo × AgentNo) → Type 0
AddsOwn t s before after = (own : List (ℕ × ℕ)) × IsFirstQueue t s.rule.member own × (after ≡ before ++ map (renumbered s) own)
