-- The order of two interactions of one net doesn't matter. Lafont 1990: two different active pairs share no agent, and interactions on
-- different pairs lead to one net in either order, up to the names of agents.

use Rattle.std.specs.Prelude.{◌≡◌, ℕ}
use Rattle.in_net.specs.Interactions.{Redex, IsRedex, IsNaming, IsStep}
use Rattle.in_net.specs.Nets.{Signature, Net, IsNet}
use Rattle.in_gluing.specs.BirthNames.{BirthName, born, IsSamePair, IsStepOfBoth}

-- under birth names, two interactions on different active pairs, in either order, lead to one net
abbrev pub InteractionsCommute : Type 0
InteractionsCommute = (sig : Signature) (n : Net BirthName) (x y : Redex BirthName ℕ) → IsNet sig n → IsNet sig x.member → IsNet sig y.member →
    IsRedex sig n x → IsRedex sig n y → (IsSamePair x y → ⊥) → (one other : Net BirthName) → IsStep sig n x (born x) one → IsStep sig n y (born y) other →
    (m : Net BirthName) × IsStep sig one y (born y) m × IsStep sig other x (born x) m

-- .. and any two results of the two orders are equal
abbrev pub OrdersAreOne : Type 0
OrdersAreOne = (sig : Signature) (n : Net BirthName) (x y : Redex BirthName ℕ) → IsNet sig n → IsNet sig x.member → IsNet sig y.member →
    IsRedex sig n x → IsRedex sig n y → (IsSamePair x y → ⊥) → (one other m k : Net BirthName) →
    IsStep sig n x (born x) one → IsStep sig one y (born y) m → IsStep sig n y (born y) other → IsStep sig other x (born x) k → m ≡ k

-- .. it is the net after both at once
abbrev pub OrdersAreBothAtOnce : Type 0
OrdersAreBothAtOnce = (sig : Signature) (n : Net BirthName) (x y : Redex BirthName ℕ) → IsNet sig n → IsNet sig x.member → IsNet sig y.member →
    IsRedex sig n x → IsRedex sig n y → (IsSamePair x y → ⊥) → (one m : Net BirthName) →
    IsNaming n y (born y) → IsStep sig n x (born x) one → IsStep sig one y (born y) m → IsStepOfBoth sig n x y (born x) (born y) m
