-- The active pairs that an interaction makes, if its boundary ends are joined from the highest to the lowest: each is made at its lowest
-- one. The order is this project's own choice.
use Rattle.std.specs.Prelude.{◌≡◌, ◌⊎◌, ◌↔◌, ◌<◌, ◌≤◌, ◌++◌, ℕ, suc, List, [], ◌∷◌, length, reverse, slice_get, Some}
use Rattle.in_symbols.specs.Tables.{Tables}
use Rattle.in_syntax.specs.declared.symbol_no.SymbolNo.{SymbolNo}
use Rattle.in_net.specs.ActivePairs.{StandsFirst}
use Rattle.in_net.specs.declared.nets.AgentNo.{AgentNo}
use Rattle.in_net.specs.Interactions.{Redex, IsOfPair, redex_at}
use Rattle.in_net.specs.Nets.{Point, Port, Free, Signature, Net, net_of, signature_of}
use Rattle.in_net.specs.Parts.{Parts}
use Rattle.in_net.specs.Rules.{RuleParts}
use Rattle.in_interaction.specs.Made.{AtAgents, IsLowestEnd, HasSymbolAfter, IsMade, HaveRisingEnds, AreMadeOverEnds}
use Rattle.in_gluing.specs.AsGluing.{CanStep, ends_from}
use Rattle.in_gluing.specs.EndByEnd.{HasJoined, outer_end, inner_end}

-- one point is the partner of one side of this boundary end, and the other point that of the other side
abbrev pub AreAtSides : Net ℕ → Redex ℕ ℕ → ℕ → Net ℕ → Point ℕ → Point ℕ → Type 0
AreAtSides n x e m u v = ((m.partner (Free (outer_end n x e)) ≡ Some u) × (m.partner (Free (inner_end n x e)) ≡ Some v))
    ⊎ ((m.partner (Free (inner_end n x e)) ≡ Some u) × (m.partner (Free (outer_end n x e)) ≡ Some v))

-- if the boundary ends above one are joined, joining it makes two ports at its sides partners exactly if it is the lowest end between
-- them
abbrev pub JoinsAtLowestEnd : Type 0
JoinsAtLowestEnd = (sig : Signature) (n : Net ℕ) (x : Redex ℕ ℕ) (name : ℕ → ℕ) (e : ℕ) (m : Net ℕ) (y i z j : ℕ) →
    CanStep sig n x name → e < length x.member.free → HasJoined sig n x name (ends_from x (suc e)) m →
    (IsOfPair x (Port y i) → ⊥) → (IsOfPair x (Port z j) → ⊥) → IsLowestEnd sig n x name e (Port y i) (Port z j) ↔ AreAtSides n x e m (Port y i) (Port z j)

-- ---- over the parts of a net

-- a rule at a pair of agents, and names for the new agents
abbrev pub CanStepAt : AtAgents
CanStepAt t n r a b name = CanStep (signature_of t) (net_of n) (redex_at r a.0 b.0) name

-- the number of boundary ends
abbrev pub ends_of : RuleParts → ℕ
ends_of r = length r.member.free

-- the principal ports of these two agents, in their order, are at the two sides of this boundary end
pub record IsPairAtSides (t : Tables) (n : Parts) (r : RuleParts) (a b : AgentNo) (name : ℕ → ℕ) (e : ℕ) (m : Net ℕ) (q : AgentNo × AgentNo) : Type 0 where
  pub first : SymbolNo
  pub second : SymbolNo
  pub one : HasSymbolAfter n r a b name q.0 first
  pub two : HasSymbolAfter n r a b name q.1 second
  pub sides : AreAtSides (net_of n) (redex_at r a.0 b.0) e m (Port q.0.0 0) (Port q.1.0 0)
  pub order : StandsFirst t first second q.0 q.1

-- joining this boundary end, after those above it, makes a pair exactly when two principal ports are at its sides: the pair that has it
-- as its lowest end
abbrev pub PairsAreMadeWhereJoined : Type 0
PairsAreMadeWhereJoined = (t : Tables) (n : Parts) (r : RuleParts) (a b : AgentNo) (name : ℕ → ℕ) (e : ℕ) (m : Net ℕ) →
    CanStepAt t n r a b name → e < ends_of r →
    HasJoined (signature_of t) (net_of n) (redex_at r a.0 b.0) name (ends_from (redex_at r a.0 b.0) (suc e)) m →
    (q : AgentNo × AgentNo) → IsMade t n r a b name e q ↔ IsPairAtSides t n r a b name e m q

-- these are all pairs whose lowest boundary end is this one or a higher one, each once, in the order of these ends
pub record AreMadeFrom (t : Tables) (n : Parts) (r : RuleParts) (a b : AgentNo) (name : ℕ → ℕ) (end : ℕ) (qs : List (AgentNo × AgentNo)) : Type 0 where
  pub each : (k : ℕ) (q : AgentNo × AgentNo) → slice_get qs k ≡ Some q → (e : ℕ) × (end ≤ e) × IsMade t n r a b name e q
  pub all : (e : ℕ) (q : AgentNo × AgentNo) → end ≤ e → IsMade t n r a b name e q → (k : ℕ) × (slice_get qs k ≡ Some q)
  pub rising : HaveRisingEnds t n r a b name qs

-- .. in the order in which they are made, the highest end first
abbrev pub AreMadeSoFar : Tables → Parts → RuleParts → AgentNo → AgentNo → (ℕ → ℕ) → ℕ → List (AgentNo × AgentNo) → Type 0
AreMadeSoFar t n r a b name end made = AreMadeFrom t n r a b name end (reverse made)

-- before any boundary end is joined, no pair is made
abbrev pub NoneIsMadeFirst : Type 0
NoneIsMadeFirst = (t : Tables) (n : Parts) (r : RuleParts) (a b : AgentNo) (name : ℕ → ℕ) → CanStepAt t n r a b name → AreMadeSoFar t n r a b name (ends_of r) []

-- the pair that is made at the next boundary end is the only one more
abbrev pub OneMoreIsMade : Type 0
OneMoreIsMade = (t : Tables) (n : Parts) (r : RuleParts) (a b : AgentNo) (name : ℕ → ℕ) (end : ℕ) (made : List (AgentNo × AgentNo)) (q : AgentNo × AgentNo) →
    CanStepAt t n r a b name → AreMadeSoFar t n r a b name (suc end) made → IsMade t n r a b name end q → AreMadeSoFar t n r a b name end (made ++ q ∷ [])

-- .. and if no pair is made there, there is no pair more
abbrev pub NoMoreIsMade : Type 0
NoMoreIsMade = (t : Tables) (n : Parts) (r : RuleParts) (a b : AgentNo) (name : ℕ → ℕ) (end : ℕ) (made : List (AgentNo × AgentNo)) →
    AreMadeSoFar t n r a b name (suc end) made → ((q : AgentNo × AgentNo) → IsMade t n r a b name end q → ⊥) → AreMadeSoFar t n r a b name end made

-- when all are joined, the pairs in reverse order are those that the interaction makes over boundary ends
abbrev pub AllMadeAreOverEnds : Type 0
AllMadeAreOverEnds = (t : Tables) (n : Parts) (r : RuleParts) (a b : AgentNo) (name : ℕ → ℕ) (made : List (AgentNo × AgentNo)) → AreMadeSoFar t n r a b name 0 made →
    AreMadeOverEnds t n r a b name (reverse made)
