-- An interaction in place: new agents may have the numbers that the pair had. Lafont 1990 takes nets up to the names of their agents.
-- That numbers are used again is this project's own choice.
use Rattle.std.specs.Prelude.{◌≡◌, ◌≢◌, ◌⊎◌, ◌↔◌, ℕ, Some, None}
use Rattle.in_net.specs.Interactions.{Redex, IsRedex, IsOfPair, IsStep}
use Rattle.in_net.specs.Nets.{Point, Signature, Net, IsNet, IsPoint}
use Rattle.in_check.specs.Runs.{moved}
use Rattle.in_overwriting.specs.Overwriting.{NoneLeadsBack, AreSidesOf, IsSide, IsSideAt}
use Rattle.in_reducer.specs.Aside.{IsAside, IsReusing}

-- the two sides of each wire of the right member become partners, and each other point that stays keeps its partner. No further point has one: in
-- particular no port of the pair, unless a new agent has its number
pub record IsOverwrittenInPlace (sig : Signature) (before : Net ℕ) (x : Redex ℕ ℕ) (name : ℕ → ℕ) (after : Net ℕ) : Type 0 where
  pub agents : (y : ℕ) (s : ℕ) → (after.symbol y ≡ Some s) ↔ (((y ≢ x.one) × (y ≢ x.two) × (before.symbol y ≡ Some s)) ⊎ ((k : ℕ) × (name k ≡ y) × (x.member.symbol k ≡ Some s)))
  pub written : (u v : Point ℕ) → AreSidesOf x.member (IsSideAt sig before x name) u v → after.partner u ≡ Some v
  pub kept : (u v : Point ℕ) → (IsOfPair x u → ⊥) → (IsSide sig before x name u → ⊥) → before.partner u ≡ Some v → after.partner u ≡ Some v
  pub points : (u v : Point ℕ) → after.partner u ≡ Some v → IsPoint sig after u
  pub free : after.free ≡ before.free

-- an active pair of a net to which no wire leads back, the right member of its rule, which is a net too, and new names for the new agents,
-- which the pair may have
pub record CanReuse (sig : Signature) (n : Net ℕ) (x : Redex ℕ ℕ) (f name : ℕ → ℕ) : Type 0 where
  pub net : IsNet sig n
  pub inside : IsNet sig x.member
  pub redex : IsRedex sig n x
  pub none_back : NoneLeadsBack n x
  pub reusing : IsReusing n x f name
  pub beside : (n.symbol (f x.one) ≡ None) × (n.symbol (f x.two) ≡ None)

-- overwriting in place is an interaction of the net in which the pair alone has other numbers
abbrev pub InPlaceIsAStep : Type 0
InPlaceIsAStep = (sig : Signature) (n m : Net ℕ) (x : Redex ℕ ℕ) (f name : ℕ → ℕ) (after : Net ℕ) → CanReuse sig n x f name → IsAside n m x f → IsOverwrittenInPlace sig n x name after →
    IsStep sig m (moved f x) name after

-- there is a net that is overwritten in this way
abbrev pub InPlaceExists : Type 0
InPlaceExists = (sig : Signature) (n m : Net ℕ) (x : Redex ℕ ℕ) (f name : ℕ → ℕ) → CanReuse sig n x f name → IsAside n m x f →
    (after : Net ℕ) × IsOverwrittenInPlace sig n x name after × IsNet sig after

-- .. and only one
abbrev pub InPlaceIsOne : Type 0
InPlaceIsOne = (sig : Signature) (n m : Net ℕ) (x : Redex ℕ ℕ) (f name : ℕ → ℕ) (one other : Net ℕ) → CanReuse sig n x f name → IsAside n m x f →
    IsOverwrittenInPlace sig n x name one → IsOverwrittenInPlace sig n x name other → one ≡ other
