use Rattle.in_run.specs.Advancing.{then_phase}
use Rattle.in_run.proofs.StatesOfRuns.{anyhow_further}
use Rattle.in_run.proofs.advancing.by_parts.Goals as goal

pub returns-in_default-clause-goes : goal.returns-in_default-clause-goes
returns-in_default-clause-goes g c = λ m k run. anyhow_further m c.args.machine.now c.take_first.new.self k c.take_first.result run c.take_first.ensures.runs

pub returns-clause-goes : goal.returns-clause-goes
returns-clause-goes g c = λ m k run. then_phase m c.args.machine.now c.phase-worked.new.machine k c.phase-worked.result.interactions run c.phase-worked.ensures.phase

pub returns-then-not-pace-clause-goes : goal.returns-then-not-pace-clause-goes
returns-then-not-pace-clause-goes g c = λ m k run. then_phase m c.args.machine.now c.sample-sampled.new.machine k c.sample-sampled.result.interactions run c.sample-sampled.ensures.phase
