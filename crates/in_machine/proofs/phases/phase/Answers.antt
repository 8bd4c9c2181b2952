use Rattle.std.proofs.Common.{sym, subst}
use Rattle.in_check.specs.Programs.{Program}
use Rattle.in_compile.specs.Templates.{AreTemplatesOf}
use Rattle.in_reducer.specs.Machines.{MachineParts}
use Rattle.in_reducer.specs.Parting.{ReducesTo}
use Rattle.in_machine.specs.Phases.{IsPhase}
use Rattle.in_machine.proofs.Phased.{phased}
use Rattle.in_machine.proofs.phases.phase.Goals as goal

pub invariant_of-machine : goal.invariant_of-machine
invariant_of-machine g c =
    let old = c.machine.inside.reducer in
    let worked = c.reduce_in_parts-worked in
    let p = phased old worked.new.reducer worked.result.interactions c.machine.invariant.0 c.pairs.ensures.reducer worked.ensures.reduces in
    (p.machine, subst (λ (q : Program). AreTemplatesOf q c.machine.inside.templates) (sym p.program) c.machine.invariant.1)

pub returns-clause-phase : goal.returns-clause-phase
returns-clause-phase g c =
    let old = c.machine.inside.reducer in
    let worked = c.reduce_in_parts-worked in
    subst (λ (m : MachineParts). IsPhase m worked.result.interactions worked.new.reducer) c.machine.view_is
    (phased old worked.new.reducer worked.result.interactions c.machine.invariant.0 c.pairs.ensures.reducer worked.ensures.reduces)

pub returns-clause-reduces : goal.returns-clause-reduces
returns-clause-reduces g c = subst (λ (m : MachineParts). ReducesTo m c.reduce_in_parts-worked.result.interactions c.reduce_in_parts-worked.new.reducer) c.machine.view_is c.reduce_in_parts-worked.ensures.reduces
