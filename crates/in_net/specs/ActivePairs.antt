-- The active pairs of a net. Lafont 1990: two agents whose principal ports are joined by a wire are an active pair. Which of the two comes
-- first, and the order of the pairs, is this project's own choice.
use Rattle.std.specs.Prelude.{◌≡◌, ◌⊎◌, ◌<◌, ℕ, min, true, false, List, slice_get, Some}
use Rattle.in_symbols.specs.Tables.{Tables, is_constructor}
use Rattle.in_syntax.specs.declared.symbol_no.SymbolNo.{SymbolNo}
use Rattle.in_net.specs.declared.nets.AgentNo.{AgentNo}
use Rattle.in_net.specs.declared.nets.Point.TheVariants.{Port}
use Rattle.in_net.specs.Parts.{Parts, symbol_in, partner_in, IsWireBetween}

abbrev pub AreActive : Parts → AgentNo → AgentNo → Type 0
AreActive n a b = partner_in n (Port a 0) ≡ Some (Port b 0)

-- the constructor is first, and of two constructors or two destructors the one with the lower number
abbrev pub StandsFirst : Tables → SymbolNo → SymbolNo → AgentNo → AgentNo → Type 0
StandsFirst t c d a b = ((is_constructor t c.0 ≡ true) × (is_constructor t d.0 ≡ false)) ⊎ ((is_constructor t c.0 ≡ is_constructor t d.0) × (a.0 < b.0))

-- the two agents with these symbols, in their order
abbrev pub IsOrdered : Tables → AgentNo × SymbolNo → AgentNo × SymbolNo → AgentNo × AgentNo → Type 0
IsOrdered t x y q = ((q ≡ (x.0, y.0)) × StandsFirst t x.1 y.1 x.0 y.0) ⊎ ((q ≡ (y.0, x.0)) × StandsFirst t y.1 x.1 y.0 x.0)

-- two agents that are an active pair, in this order
pub record IsActivePair (t : Tables) (n : Parts) (q : AgentNo × AgentNo) : Type 0 where
  pub active : AreActive n q.0 q.1
  pub first : SymbolNo
  pub second : SymbolNo
  pub one : symbol_in n q.0.0 ≡ Some first
  pub two : symbol_in n q.1.0 ≡ Some second
  pub order : StandsFirst t first second q.0 q.1

-- the listed wire of that number joins the principal ports of the two
abbrev pub JoinsAgents : Parts → ℕ → AgentNo × AgentNo → Type 0
JoinsAgents n w q = IsWireBetween n w (Port q.0 0) (Port q.1 0)

abbrev pub lower_of : AgentNo × AgentNo → ℕ
lower_of q = min q.0.0 q.1.0

-- in the order of their lower agents' numbers
abbrev pub RiseByLower : List (AgentNo × AgentNo) → Type 0
RiseByLower qs = (j k : ℕ) (p q : AgentNo × AgentNo) → j < k → slice_get qs j ≡ Some p → slice_get qs k ≡ Some q → lower_of p < lower_of q

-- the active pairs, each once, in the order of their lower agents' numbers
pub record ArePairsOf (t : Tables) (n : Parts) (qs : List (AgentNo × AgentNo)) : Type 0 where
  pub pairs : (k : ℕ) (q : AgentNo × AgentNo) → slice_get qs k ≡ Some q → IsActivePair t n q
  pub all : (q : AgentNo × AgentNo) → IsActivePair t n q → (k : ℕ) × (slice_get qs k ≡ Some q)
  pub rising : RiseByLower qs
