-- The outcomes of the procedure.
use Rattle.in_simple_deriving.specs.declared.procedure.DerivingOutcome.{DerivingOutcome}
use Rattle.in_simple_deriving.specs.declared.procedure.DerivingOutcome.TheVariants.{Derived, First}
use Rattle.in_open_nets.specs.OpenNets.{OpenNet}
use Rattle.in_open_nets.specs.Derivations.{IsDerivation}
use Rattle.in_open_nets.specs.Stuck.{IsStuckNet}
use Rattle.in_simple_deriving.specs.TakenOrder.{AreTaken}

abbrev pub IsDerivingOutcome : OpenNet → DerivingOutcome → Type 0
IsDerivingOutcome o (Derived d) = IsDerivation o d.steps × AreTaken o d.steps
IsDerivingOutcome o (First s) = IsStuckNet o s
