-- The active pairs that an interaction makes. Lafont 1990: the right member takes the place of the active pair on the same boundary ends;
-- if this joins two principal ports by one wire, there is a new active pair. Which of the two is first, and the order of the new
-- pairs, is this project's own choice. All this is under any names of the new agents.
use Rattle.std.specs.Prelude.{◌≡◌, ◌≢◌, ◌⊎◌, ◌<◌, ◌≤◌, ◌++◌, ℕ, List, map, slice_get, Some}
use Rattle.in_base.specs.Lists.{IsAmong}
use Rattle.in_symbols.specs.Tables.{Tables}
use Rattle.in_syntax.specs.declared.symbol_no.SymbolNo.{SymbolNo}
use Rattle.in_net.specs.declared.nets.AgentNo.{AgentNo}
use Rattle.in_net.specs.ActivePairs.{AreActive, StandsFirst}
use Rattle.in_net.specs.Interactions.{Redex, Side, PairPath, end_agent, end_place, redex_at}
use Rattle.in_net.specs.Nets.{Point, Port, Signature, Net, net_of, signature_of}
use Rattle.in_net.specs.Parts.{Parts, symbol_in}
use Rattle.in_net.specs.Rules.{RuleParts}
use Rattle.in_interaction.specs.Queues.{agents_at, both, IsFirstQueue}

-- a property of a rule at two agents of a net, under names of the new agents
abbrev pub AtAgents : Type 1
AtAgents = Tables → Parts → RuleParts → AgentNo → AgentNo → (ℕ → ℕ) → Type 0

-- an alternating path leads from one point to the other and passes the boundary end of this number
abbrev pub PassesEnd : {A B : Type 0} → Signature → Net A → Redex A B → (B → A) → ℕ → Point A → Point A → Type 0
PassesEnd {A} sig n x name e u v =
    (side : Side) × (es : List (Point A)) × PairPath sig n x name side u es v
    × IsAmong (Port (end_agent sig x e) (end_place sig x e)) es

-- .. and no lower one
pub record IsLowestEnd {A B : Type 0} (sig : Signature) (n : Net A) (x : Redex A B) (name : B → A) (e : ℕ) (u v : Point A) : Type 0 where
  pub passed : PassesEnd sig n x name e u v
  pub lowest : (d : ℕ) → PassesEnd sig n x name d u v → e ≤ d

-- the agent stays and has this symbol, or it is a new one, under its name, and has it in the right member
abbrev pub HasSymbolAfter : Parts → RuleParts → AgentNo → AgentNo → (ℕ → ℕ) → AgentNo → SymbolNo → Type 0
HasSymbolAfter n r a b name y s =
    ((y ≢ a) × (y ≢ b) × (symbol_in n y.0 ≡ Some s)) ⊎ ((k : ℕ) × (name k ≡ y.0) × (symbol_in r.member k ≡ Some s))

-- the path between the principal ports of these two agents passes this boundary end and no lower one: then they are an active pair after
-- the interaction of a and b, in this order
pub record IsMade (t : Tables) (n : Parts) (r : RuleParts) (a b : AgentNo) (name : ℕ → ℕ) (e : ℕ) (q : AgentNo × AgentNo) : Type 0 where
  pub first : SymbolNo
  pub second : SymbolNo
  pub one : HasSymbolAfter n r a b name q.0 first
  pub two : HasSymbolAfter n r a b name q.1 second
  pub path : IsLowestEnd (signature_of t) (net_of n) (redex_at r a.0 b.0) name e (Port q.0.0 0) (Port q.1.0 0)
  pub order : StandsFirst t first second q.0 q.1

-- of two of these pairs that are made at boundary ends, the earlier one has the lower end
abbrev pub HaveRisingEnds : Tables → Parts → RuleParts → AgentNo → AgentNo → (ℕ → ℕ) → List (AgentNo × AgentNo) → Type 0
HaveRisingEnds t n r a b name qs = (j k d e : ℕ) (p q : AgentNo × AgentNo) → j < k → slice_get qs j ≡ Some p → slice_get qs k ≡ Some q →
    IsMade t n r a b name d p → IsMade t n r a b name e q → d < e

-- these are all such pairs, each once, in the order of the lowest boundary ends
pub record AreMadeOverEnds (t : Tables) (n : Parts) (r : RuleParts) (a b : AgentNo) (name : ℕ → ℕ) (qs : List (AgentNo × AgentNo)) : Type 0 where
  pub each : (k : ℕ) (q : AgentNo × AgentNo) → slice_get qs k ≡ Some q → (e : ℕ) × IsMade t n r a b name e q
  pub all : (e : ℕ) (q : AgentNo × AgentNo) → IsMade t n r a b name e q → (k : ℕ) × (slice_get qs k ≡ Some q)
  pub rising : HaveRisingEnds t n r a b name qs

-- these are the active pairs that the interaction makes, each once: those of paths through boundary ends, by the lowest of them, and then
-- the right member's own under their new names, in the order of their wires
pub record AreMade (t : Tables) (n : Parts) (r : RuleParts) (a b : AgentNo) (name : ℕ → ℕ) (qs : List (AgentNo × AgentNo)) : Type 0 where
  pub over : List (AgentNo × AgentNo)
  pub own : List (ℕ × ℕ)
  pub are_over : AreMadeOverEnds t n r a b name over
  pub are_own : IsFirstQueue t r.member own
  pub listed : qs ≡ over ++ map (λ q. agents_at (both name q)) own

-- two new agents that are an active pair in the right member already, so that no boundary end is on their wire
pub record IsOwn (t : Tables) (r : RuleParts) (name : ℕ → ℕ) (q : AgentNo × AgentNo) : Type 0 where
  pub inner : AgentNo × AgentNo
  pub active : AreActive r.member inner.0 inner.1
  pub first : SymbolNo
  pub second : SymbolNo
  pub one : symbol_in r.member inner.0.0 ≡ Some first
  pub two : symbol_in r.member inner.1.0 ≡ Some second
  pub named : (name inner.0.0 ≡ q.0.0) × (name inner.1.0 ≡ q.1.0)
  pub order : StandsFirst t first second q.0 q.1
