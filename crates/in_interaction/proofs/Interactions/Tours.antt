-- Cycles laid out wire by wire over both sides of an interaction, and the nodes that they pass.
use Rattle.std.specs.Prelude.{◌≡◌, ◌≢◌, ◌⊎◌, ℕ, List, [], ◌∷◌}
use mathlib.Core.Logic.{inl, inr}
use Rattle.std.specs.List.{AllByRecursion}
use Rattle.in_base.specs.Graphs.{Passage, AreApart}
use Rattle.in_net.specs.Graphs.{class_of_symbol}
use Rattle.in_net.specs.Nets.{Signature, Net}
use Rattle.in_net.specs.Interactions.{Redex, Side, Outer, Inner, other}
use Rattle.in_interaction.specs.Pieces.{AreDifferent}
use Rattle.in_interaction.proofs.Interactions.Places.{Place, Old, New, Boundary, wires}

-- an agent that stays, or a new one, with the place that is entered and the one that is left; or a boundary end,
-- entered on this side and left on the other
pub data Stop (A B : Type 0) : Type 0 where
  At_old : A → ℕ → ℕ → Stop A B
  At_new : B → ℕ → ℕ → Stop A B
  Through : Side → ℕ → Stop A B

module _ {A B : Type 0} where
  abbrev pub enters : Stop A B → Side × Place A B
  enters (At_old x i j) = (Outer, Old x i)
  enters (At_new y i j) = (Inner, New y i)
  enters (Through s e) = (s, Boundary e)

  abbrev pub leaves : Stop A B → Side × Place A B
  leaves (At_old x i j) = (Outer, Old x j)
  leaves (At_new y i j) = (Inner, New y j)
  leaves (Through s e) = (other s, Boundary e)

  -- the agents among them, in order, by the ports of their passages
  abbrev pub agents_of : List (Stop A B) → List (Passage (A ⊎ B))
  agents_of [] = []
  agents_of (At_old x i j ∷ ss) = record { node = inl x; enter = i; leave = j } ∷ agents_of ss
  agents_of (At_new y i j ∷ ss) = record { node = inr y; enter = i; leave = j } ∷ agents_of ss
  agents_of (Through s e ∷ ss) = agents_of ss

  -- the boundary ends among them, in order
  abbrev pub boundary_of : List (Stop A B) → List ℕ
  boundary_of [] = []
  boundary_of (At_old x i j ∷ ss) = boundary_of ss
  boundary_of (At_new y i j ∷ ss) = boundary_of ss
  boundary_of (Through s e ∷ ss) = e ∷ boundary_of ss

-- walks each of whose places is entered as En says, and left as Le says
module _ {A B : Type 0} (wire : Side → Place A B → Place A B → Type 0) (En Le : Side → Place A B → Type 0) where
  -- one wire of the side
  abbrev pub Wired : Side × Place A B → Side × Place A B → Type 0
  Wired u v = (u.0 ≡ v.0) × wire u.0 u.1 v.1

  abbrev pub Tour : Side × Place A B → List (Stop A B) → Side × Place A B → Type 0
  Tour u [] v = Wired u v
  Tour u (p ∷ ps) v = Wired u (enters p) × En (enters p).0 (enters p).1 × Le (leaves p).0 (leaves p).1 × Tour (leaves p) ps v

-- an agent is entered and left by different classes
abbrev pub IsCrossingStop : {A B : Type 0} → Signature → Net A → Redex A B → Stop A B → Type 0
IsCrossingStop sig n x (At_old y i j) = class_of_symbol sig (n.symbol y) i ≢ class_of_symbol sig (n.symbol y) j
IsCrossingStop sig n x (At_new y i j) = class_of_symbol sig (x.member.symbol y) i ≢ class_of_symbol sig (x.member.symbol y) j
IsCrossingStop sig n x (Through s e) = Unit {0}

abbrev pub AnyPlace : {A B : Type 0} → Side → Place A B → Type 0
AnyPlace s p = Unit {0}

-- wires of an interaction through these stops in turn
abbrev pub Passes : {A B : Type 0} → Signature → Net A → Redex A B → Side × Place A B → List (Stop A B) → Side × Place A B → Type 0
Passes sig n x = Tour (wires sig n x) AnyPlace AnyPlace

-- a cycle of agents that stay, new agents and boundary ends: the stops between two boundary ends are joined by wires of the net
-- before alone, or by wires of the right member alone, and the side changes at each boundary end. No agent and no boundary end comes twice
pub record LaidOut {A B : Type 0} (sig : Signature) (n : Net A) (x : Redex A B) : Type 0 where
  pub first : Stop A B
  pub rest : List (Stop A B)
  pub closed : Passes sig n x (leaves first) rest (enters first)
  pub crossing : AllByRecursion (IsCrossingStop sig n x) (first ∷ rest)
  pub agents : AreApart (agents_of (first ∷ rest))
  pub boundary : AreDifferent (boundary_of (first ∷ rest))
