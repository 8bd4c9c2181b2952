use Rattle.std.proofs.Common.{ℕ, suc, sym, subst}
use Rattle.in_check.specs.Plain.{IsReachedBy}
use Rattle.in_check.specs.Programs.{Program}
use Rattle.in_compile.specs.Templates.{AreTemplatesOf}
use Rattle.in_reducer.specs.Machines.{MachineParts, plain_of}
use Rattle.in_machine.proofs.StepsOn.{machine_on, steps_on}
use Rattle.in_machine.proofs.machine.Machine.step.Goals as goal

pub invariant_of-self : goal.invariant_of-self
invariant_of-self c = (
  machine_on c.self.inside.reducer c.step.new.self c.args.number c.self.invariant.0 c.step.ensures,
  subst (λ (p : Program). AreTemplatesOf p c.self.inside.templates) (sym c.step.ensures.step.program) c.self.invariant.1,
)

pub returns-clause-counted : goal.returns-clause-counted
returns-clause-counted c =
    subst (λ (m : MachineParts). (k : ℕ) → IsReachedBy (plain_of m) k → IsReachedBy (plain_of c.step.new.self) (suc k)) c.self.view_is
    (steps_on c.self.inside.reducer c.step.new.self c.args.number c.self.invariant.0 c.step.ensures).1
