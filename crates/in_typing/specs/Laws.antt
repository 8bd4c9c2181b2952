-- Laws over the definitions of types.
use Rattle.std.specs.Prelude.{◌≡◌, ℕ, not, Some, Result}
use Rattle.in_syntax.specs.declared.faults.Refusal.{Refusal}
use Rattle.in_symbols.specs.declared.symbols.PortType.{PortType}
use Rattle.in_syntax.specs.declared.symbol_no.SymbolNo.{SymbolNo}
use Rattle.in_symbols.specs.Tables.{Tables, port_at, is_constructor}
use Rattle.in_net.specs.declared.nets.AgentNo.{AgentNo}
use Rattle.in_net.specs.declared.nets.Point.TheVariants.{Port}
use Rattle.in_net.specs.Interactions.{Redex, IsRedex, IsNaming, IsStep, AreJoined}
use Rattle.in_net.specs.Nets.{Point, Net, IsNet, Signature, net_of, signature_of}
use Rattle.in_net.specs.Parts.{Parts, IsWhole, partner_in, symbol_in}
use Rattle.in_net.specs.Rules.{RuleParts}
use Rattle.in_typing.specs.Typed.{IsTyped, Types, TypesRule, opposite}
use Rattle.in_typing.specs.TypedNets.{IsTypedNet, HasType}

-- two agents whose principal ports are one wire: Lafont 1990 calls them an active pair
abbrev pub AreActivePair : Parts → AgentNo → AgentNo → Type 0
AreActivePair n x y = partner_in n (Port x 0) ≡ Some (Port y 0)

-- the symbols of the two are a constructor and a destructor of one type
pub record AreOpposite (t : Tables) (n : Parts) (x y : AgentNo) : Type 0 where
  pub one : SymbolNo
  pub other : SymbolNo
  pub one_is : symbol_in n x.0 ≡ Some one
  pub other_is : symbol_in n y.0 ≡ Some other
  pub kind : (port_at t one.0 0).kind ≡ (port_at t other.0 0).kind
  pub sign : is_constructor t one.0 ≡ not (is_constructor t other.0)

abbrev pub TypedPairsMatch : Type 0
TypedPairsMatch = (t : Tables) (n : Parts) (x y : AgentNo) → IsWhole n → IsTyped t n → AreActivePair n x y → AreOpposite t n x y

-- typing a net has one result, and typing a rule has one
abbrev pub NetsAreTypedOnce : Type 0
NetsAreTypedOnce = (t : Tables) (n : Parts) (a b : Result (Unit {0}) Refusal) → Types t n a → Types t n b → a ≡ b

abbrev pub RulesAreTypedOnce : Type 0
RulesAreTypedOnce = (t : Tables) (r : RuleParts) (a b : Result (Unit {0}) Refusal) → TypesRule t r a → TypesRule t r b → a ≡ b

-- ---- nets over any names

-- parts that are typed are a typed net
abbrev pub TypedPartsAreTypedNets : Type 0
TypedPartsAreTypedNets = (t : Tables) (n : Parts) → IsWhole n → IsTyped t n → IsTypedNet (signature_of t) (net_of n)

-- types agree along an alternating path: its two ends have types of one name and opposite signs. Lafont 1990: the right member of a rule
-- has, at each boundary end, the type of the auxiliary port that it replaces
abbrev pub TypedAlongPaths : Type 0
TypedAlongPaths = (sig : Signature) (n : Net ℕ) (x : Redex ℕ ℕ) (name : ℕ → ℕ) → IsNet sig n → IsNet sig x.member → IsRedex sig n x → IsNaming n x name → IsTypedNet sig n → IsTypedNet sig x.member →
    (u v : Point ℕ) (s t : PortType) → AreJoined sig n x name u v → HasType sig n x name u s → HasType sig n x name v t → t ≡ opposite s

-- .. so that an interaction keeps a net typed
abbrev pub StepsStayTyped : Type 0
StepsStayTyped = (sig : Signature) (n : Net ℕ) (x : Redex ℕ ℕ) (name : ℕ → ℕ) (after : Net ℕ) → IsNet sig n → IsNet sig x.member → IsRedex sig n x → IsStep sig n x name after →
    IsTypedNet sig n → IsTypedNet sig x.member → IsTypedNet sig after
