-- The laws of deriving, over the definitions alone.
use Rattle.std.specs.Prelude.{◌≡◌, ◌↔◌, List, Result, Ok, Err}
use Rattle.in_syntax.specs.declared.places.Place.{Place}
use Rattle.in_open_nets.specs.OpenNets.{OpenNet, IsOpenNet, IsDerivable}
use Rattle.in_open_nets.specs.declared.derivations.Step.{Step}
use Rattle.in_open_nets.specs.Derivations.{IsDerivation}
use Rattle.in_open_nets.specs.declared.derivations.Derivation.{Derivation}
use Rattle.in_simple_deriving.specs.TakenOrder.{AreTaken}
use Rattle.in_open_nets.specs.declared.derivations.Undone.{Undone}
use Rattle.in_open_nets.specs.declared.derivations.Undone.TheVariants.{Stuck, Memory}
use Rattle.in_open_nets.specs.Stuck.{IsUndone, IsStuckAt}

-- an open net has a derivation exactly when it is derivable
abbrev pub DerivationWhereDerivable : Type 0
DerivationWhereDerivable = (o : OpenNet) → IsOpenNet o → ((steps : List Step) × IsDerivation o steps) ↔ IsDerivable o

-- ---- one result

-- the results that deriving may have
abbrev pub Derives : OpenNet → Result Derivation Undone → Type 0
Derives o (Ok d) = IsDerivation o d.steps × AreTaken o d.steps
Derives o (Err u) = IsUndone o u

-- both are Ok with the same steps, or both are stuck at the same nodes; running out of memory isn't covered
abbrev pub AgreeOnDeriving : Result Derivation Undone → Result Derivation Undone → Type 0
AgreeOnDeriving (Ok d) (Ok e) = d.steps ≡ e.steps
AgreeOnDeriving (Ok d) (Err (Stuck s)) = ⊥
AgreeOnDeriving (Ok d) (Err (Memory e)) = Unit {0}
AgreeOnDeriving (Err (Stuck s)) (Ok d) = ⊥
AgreeOnDeriving (Err (Stuck s)) (Err (Stuck r)) = s.nodes ≡ r.nodes
AgreeOnDeriving (Err (Stuck s)) (Err (Memory e)) = Unit {0}
AgreeOnDeriving (Err (Memory e)) b = Unit {0}

-- all results that deriving may have for an open net agree
abbrev pub NetsAreDerivedOnce : Type 0
NetsAreDerivedOnce = (o : OpenNet) (a b : Result Derivation Undone) → IsOpenNet o → Derives o a → Derives o b → AgreeOnDeriving a b

-- a stuck open net is refused at one place
abbrev pub OneStuckPlace : Type 0
OneStuckPlace = (o : OpenNet) (p q : Place) → IsOpenNet o → IsStuckAt o p → IsStuckAt o q → p ≡ q
