-- Wires between auxiliary ports of the two agents of an active pair. The rule which symbols are marked is this project's own choice: no wire joins
-- two auxiliary ports of an agent whose symbol isn't marked, in a typed net without crossing circle.
use Rattle.std.specs.Prelude.{◌≡◌, ◌≢◌, ◌≤◌, ℕ, suc, Some}
use Rattle.in_base.specs.Graphs.{CrossingCircle}
use Rattle.in_net.specs.Graphs.{graph_of}
use Rattle.in_net.specs.Interactions.{Redex, IsRedex}
use Rattle.in_net.specs.Nets.{Port, Signature, AreClasses, Net, IsNet}
use Rattle.in_typing.specs.Typed.{opposite}
use Rattle.in_typing.specs.TypedNets.{IsTypedNet}
use Rattle.in_overwriting.specs.Overwriting.{NoneLeadsBack}

-- two places of the symbol are of one class, and have types of one name and opposite signs
abbrev pub AreMarkedPlaces : Signature → ℕ → ℕ → ℕ → Type 0
AreMarkedPlaces sig s p q = (sig.class_of s p ≡ sig.class_of s q) × (sig.type_of s q ≡ opposite (sig.type_of s p))

-- two auxiliary places of the symbol are marked ones
pub record IsMarkedAt (sig : Signature) (s i j : ℕ) : Type 0 where
  pub first : suc i ≤ sig.arity s
  pub second : suc j ≤ sig.arity s
  pub class : sig.class_of s (suc i) ≡ sig.class_of s (suc j)
  pub types : sig.type_of s (suc j) ≡ opposite (sig.type_of s (suc i))

abbrev pub IsMarkedSymbol : Signature → ℕ → Type 0
IsMarkedSymbol sig s = (i j : ℕ) × IsMarkedAt sig s i j

-- a net of agents in which each principal port is a class by itself, typed, without crossing circle
pub record IsCalm {A : Type 0} (sig : Signature) (n : Net A) : Type 0 where
  pub classes : AreClasses sig
  pub net : IsNet sig n
  pub typed : IsTypedNet sig n
  pub no_circle : CrossingCircle (graph_of sig n) → ⊥

-- no wire joins auxiliary ports of the two agents of an active pair
abbrev pub NoWireBetween : Type 0
NoWireBetween = (sig : Signature) (n : Net ℕ) (a b i j : ℕ) → IsCalm sig n → n.partner (Port a 0) ≡ Some (Port b 0) → n.partner (Port a (suc i)) ≢ Some (Port b (suc j))

-- a wire between two auxiliary ports of one agent is at places by which its symbol is marked
abbrev pub OneClassOfOneAgent : Type 0
OneClassOfOneAgent = (sig : Signature) (n : Net ℕ) (a i j s : ℕ) → IsCalm sig n → n.symbol a ≡ Some s → n.partner (Port a (suc i)) ≡ Some (Port a (suc j)) → IsMarkedAt sig s i j

-- so no wire leads back to a pair if neither symbol is marked
abbrev pub UnmarkedPairsAreApart : Type 0
UnmarkedPairsAreApart = (sig : Signature) (n : Net ℕ) (x : Redex ℕ ℕ) → IsCalm sig n → IsRedex sig n x → (IsMarkedSymbol sig x.first → ⊥) → (IsMarkedSymbol sig x.second → ⊥) → NoneLeadsBack n x
