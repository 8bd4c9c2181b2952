-- A site of an interaction, and the path that continues from a point, between the net outside the pair and the right member inside
-- it. Words of the inner contracts of `interact`.
use Rattle.std.specs.Prelude.{◌≡◌, ◌<◌, ◌≤◌, ℕ, zero, suc, ◌+◌, ◌-◌, ◌*◌, nat_eq, nat_lt, cond, List, length, slice_get, Option, Some, None, count_by, is_some}
use Rattle.in_syntax.specs.Grammar.{max_ports}
use Rattle.in_symbols.specs.Tables.{Tables}
use Rattle.in_net.specs.declared.nets.AgentNo.{AgentNo}
use Rattle.in_net.specs.declared.nets.Cell.{Cell}
use Rattle.in_net.specs.declared.nets.Point.{Point}
use Rattle.in_net.specs.declared.nets.Point.TheVariants.{Port, Free}
use Rattle.in_interaction.specs.Interacting.{unused, most_agents, CanInteract}
use Rattle.in_net.specs.Interactions.{AreJoined, IsOfPair, redex_at}
use Rattle.in_net.specs.Nets as nets
use Rattle.in_net.specs.Nets.{net_of, signature_of, point_of}
use Rattle.in_syntax.specs.TextLimits.{most_member_agents}
use Rattle.in_net.specs.Parts.{Parts, IsPointOf, IsWhole, cell_in, partner_in}
use Rattle.in_net.specs.Rules.{RuleParts}

-- a net, a rule, two agents, the number of auxiliary places of the first one, and the numbers of the new agents
pub record SiteParts : Type 0 where
  pub net : Parts
  pub rule : RuleParts
  pub one : AgentNo
  pub two : AgentNo
  pub first : ℕ
  pub names : List AgentNo

-- the two can interact, over some tables, and the numbers are the least unused ones
pub record IsSite (s : SiteParts) : Type 0 where
  pub over : (t : Tables) × CanInteract t s.net s.rule s.one s.two
  pub whole : IsWhole s.net
  pub member : IsWhole s.rule.member
  pub room : count_by is_some s.net.cells ≤ most_agents
  pub few : length s.rule.member.cells ≤ most_member_agents
  pub first : (c : Cell) → cell_in s.net s.one.0 ≡ Some c → length c.ends ≡ s.first + 1
  pub many : length s.names ≡ length s.rule.member.cells
  pub names : (k : ℕ) → k < length s.names → slice_get s.names k ≡ Some (record { 0 = unused s.net.cells k })

-- the boundary end of a port of the pair: the first agent's auxiliary places come first
abbrev pub end_by : AgentNo → AgentNo → ℕ → AgentNo → ℕ → Option ℕ
end_by one two first x zero = None
end_by one two first x (suc i) = cond (nat_eq x.0 one.0) (Some i) (cond (nat_eq x.0 two.0) (Some (first + i)) None)

abbrev pub end_of : AgentNo → AgentNo → ℕ → Point → Option ℕ
end_of one two first (Port x i) = end_by one two first x i
end_of one two first (Free k) = None

abbrev pub port_of : AgentNo → AgentNo → ℕ → ℕ → Point
port_of one two first e = cond (nat_lt e first) (Port one (e + 1)) (Port two (e - first + 1))

-- a turn continues from inside to this point: a new agent's port, where the path ends, or a boundary end that is left outside
abbrev pub OnInner : SiteParts → (Point → Type 0) → Point → Point → Type 0
OnInner s Rest v (Port l j) = (y : AgentNo) × (slice_get s.names l.0 ≡ Some y) × (Port y j ≡ v)
OnInner s Rest v (Free f) = (r : Point) × (partner_in s.net (port_of s.one s.two s.first f) ≡ Some r) × Rest r

-- .. from a point outside: the path ends there, or it enters a boundary end
abbrev pub OnEnd : SiteParts → (Point → Type 0) → Point → Point → Option ℕ → Type 0
OnEnd s Rest at v None = at ≡ v
OnEnd s Rest at v (Some e) = (q : Point) × (partner_in s.rule.member (Free e) ≡ Some q) × OnInner s Rest v q

-- within a given number of turns, each of which goes through the right member, the path that arrived here reaches that point
unfoldable pub Lands : SiteParts → ℕ → Point → Point → Type 0
Lands s zero at v = ⊥
Lands s (suc k) at v = OnEnd s (λ r. Lands s k r v) at v (end_of s.one s.two s.first at)

-- a path passes each boundary end at most twice, and two of them at each turn
abbrev pub most_turns : ℕ
most_turns = 2 * max_ports + 1

-- ---- the calls that follow a path

-- a point of the old net that stays
abbrev pub IsOld : SiteParts → Point → Type 0
IsOld s p = IsPointOf s.net p × (IsOfPair (redex_at s.rule s.one.0 s.two.0) (point_of p) → ⊥)

-- a new agent's port
abbrev pub NewPort : SiteParts → AgentNo → ℕ → nets.Point ℕ
NewPort s k i = nets.Port (unused s.net.cells k.0) i

-- two points that stay are joined by an alternating path
abbrev pub IsPartnerAfter : SiteParts → nets.Point ℕ → Point → Type 0
IsPartnerAfter s u v = (t : Tables) → CanInteract t s.net s.rule s.one s.two →
    AreJoined (signature_of t) (net_of s.net) (redex_at s.rule s.one.0 s.two.0) (unused s.net.cells) u (point_of v)
