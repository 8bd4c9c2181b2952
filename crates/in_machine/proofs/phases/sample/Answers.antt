use Rattle.std.proofs.Common.{sym, subst}
use Rattle.in_check.specs.Programs.{Program}
use Rattle.in_compile.specs.Templates.{AreTemplatesOf}
use Rattle.in_reducer.specs.Machines.{MachineParts}
use Rattle.in_reducer.specs.Parting.{ReducesTo}
use Rattle.in_machine.specs.Phases.{IsPhase}
use Rattle.in_machine.proofs.Phased.{phased}
use Rattle.in_machine.proofs.phases.sample.Goals as goal

pub invariant_of-machine : goal.invariant_of-machine
invariant_of-machine c =
    let old = c.machine.inside.reducer in
    let sampled = c.reduce_a_part-sampled in
    let p = phased old sampled.new.reducer sampled.result.interactions c.machine.invariant.0 c.pairs.ensures.reducer sampled.ensures.reduces in
    (p.machine, subst (λ (q : Program). AreTemplatesOf q c.machine.inside.templates) (sym p.program) c.machine.invariant.1)

pub returns-clause-phase : goal.returns-clause-phase
returns-clause-phase c =
    let old = c.machine.inside.reducer in
    let sampled = c.reduce_a_part-sampled in
    subst (λ (m : MachineParts). IsPhase m sampled.result.interactions sampled.new.reducer) c.machine.view_is
    (phased old sampled.new.reducer sampled.result.interactions c.machine.invariant.0 c.pairs.ensures.reducer sampled.ensures.reduces)

pub returns-clause-reduces : goal.returns-clause-reduces
returns-clause-reduces c = subst (λ (m : MachineParts). ReducesTo m c.reduce_a_part-sampled.result.interactions c.reduce_a_part-sampled.new.reducer) c.machine.view_is c.reduce_a_part-sampled.ensures.reduces
