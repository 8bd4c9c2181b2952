use Rattle.std.proofs.Common.{sym, subst, ◌∙◌}
use Rattle.in_check.specs.Programs.{Program}
use Rattle.in_compile.specs.Templates.{AreTemplatesOf}
use Rattle.in_reducer.specs.Machines.{MachineParts}
use Rattle.in_reducer.specs.Same.{RunsUpToNumbers}
use Rattle.in_machine.proofs.Alongside.{along}
use Rattle.in_machine.proofs.SameMachine.{machine_same}
use Rattle.in_machine.proofs.machine.Machine.take_first.Goals as goal

pub invariant_of-self : goal.invariant_of-self
invariant_of-self c =
    let m = c.self.inside.reducer in
    let run = c.take_first.ensures.runs in
    let a = along run.0 c.take_first.new.self c.take_first.result (machine_same m run.0 c.self.invariant.0 run.1) run.2 in (
      a.machine,
      subst (λ (p : Program). AreTemplatesOf p c.self.inside.templates) (sym (a.program ∙ run.1.1.program)) c.self.invariant.1,
    )

pub returns-clause-runs : goal.returns-clause-runs
returns-clause-runs c = subst (λ (m : MachineParts). RunsUpToNumbers m c.take_first.result c.take_first.new.self) c.self.view_is c.take_first.ensures.runs
