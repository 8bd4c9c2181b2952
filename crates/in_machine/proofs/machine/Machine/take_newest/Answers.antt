use Rattle.std.proofs.Common.{sym, subst}
use Rattle.in_check.specs.Programs.{Program}
use Rattle.in_compile.specs.Templates.{AreTemplatesOf}
use Rattle.in_reducer.specs.Machines.{MachineParts}
use Rattle.in_reducer.specs.Parting.{ReducesTo}
use Rattle.in_machine.specs.Phases.{IsPhase}
use Rattle.in_machine.proofs.Phased.{phased}
use Rattle.in_machine.proofs.machine.Machine.take_newest.Goals as goal

pub invariant_of-self : goal.invariant_of-self
invariant_of-self c =
    let old = c.self.inside.reducer in
    let taken = c.take_newest-count in
    let p = phased old taken.new.self taken.result c.self.invariant.0 c.pairs.ensures.reducer taken.ensures.reduces in
    (p.machine, subst (λ (q : Program). AreTemplatesOf q c.self.inside.templates) (sym p.program) c.self.invariant.1)

pub returns-clause-phase : goal.returns-clause-phase
returns-clause-phase c =
    let old = c.self.inside.reducer in
    let taken = c.take_newest-count in
    subst (λ (m : MachineParts). IsPhase m taken.result taken.new.self) c.self.view_is (phased old taken.new.self taken.result c.self.invariant.0 c.pairs.ensures.reducer taken.ensures.reduces)

pub returns-clause-reduces : goal.returns-clause-reduces
returns-clause-reduces c = subst (λ (m : MachineParts). ReducesTo m c.take_newest-count.result c.take_newest-count.new.self) c.self.view_is c.take_newest-count.ensures.reduces
