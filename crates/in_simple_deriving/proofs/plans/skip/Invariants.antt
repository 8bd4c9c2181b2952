use Rattle.in_simple_deriving.specs.Planned.{Skips, WithEmpties}
use Rattle.in_simple_deriving.specs.Procedure.{KeepsPlan}
use Rattle.in_simple_deriving.proofs.plans.skip.Given as goal

abbrev pub invariant-loop-class : goal.invariant-loop-class
invariant-loop-class l = record {
  plan : KeepsPlan l.fn.plan l.skipped;
  skips : Skips l.class l.fn.plan l.skipped;
  tasks : WithEmpties l.class l.fn.plan l.skipped;
}
