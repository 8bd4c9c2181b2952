use Rattle.std.proofs.Common.{◌≡◌, ◌++◌, ◌-◌, length, map}
use Rattle.in_simple_deriving.specs.Procedure.{AreMakes}
use Rattle.in_simple_deriving.specs.TakenOrder.{links_from}
use Rattle.in_simple_deriving.specs.declared.plans.Task.TheVariants.{Make}
use Rattle.in_simple_deriving.specs.Stacks.{SetsBeside}
use Rattle.in_simple_deriving.proofs.procedure.loose.Given as goal

abbrev pub invariant-loop-wire : goal.invariant-loop-wire
invariant-loop-wire l = record {
  makes : AreMakes l.tasks;
  steps : SetsBeside l.open l.begun l.wire l.some l.tasks;
  order : l.tasks ++ map Make (links_from l.open l.some l.wire (length l.open.wires - l.wire)) ≡ map Make (links_from l.open l.begun 0 (length l.open.wires));
}
