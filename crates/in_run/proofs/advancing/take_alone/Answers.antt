use Rattle.std.proofs.Common.{◌≡◌, ◌+◌, ℕ, subst, arith}
use Rattle.in_run.specs.Advancing.{RunsAnyhow, then_phase}
use Rattle.in_run.proofs.StatesOfRuns.{anyhow_further}
use Rattle.in_run.proofs.advancing.take_alone.Goals as goal

pub returns-then-not-are_newest_first-clause-goes : goal.returns-then-not-are_newest_first-clause-goes
returns-then-not-are_newest_first-clause-goes c = λ m k run. anyhow_further m c.args.machine.now c.take_first.new.self k c.take_first.result run c.take_first.ensures.runs

pub returns-then-count-ne0-clause-goes : goal.returns-then-count-ne0-clause-goes
returns-then-count-ne0-clause-goes c = λ m k run. then_phase m c.args.machine.now c.take_newest-count.new.self k c.take_newest-count.result run c.take_newest-count.ensures.phase

pub returns-clause-goes : goal.returns-clause-goes
returns-clause-goes c = λ m k run. (
    let newest = c.take_newest-count.result in
    let first = c.take_first-2.result in
    let one = then_phase m c.args.machine.now c.take_newest-count.new.self k newest run c.take_newest-count.ensures.phase in
    subst (λ (n : ℕ). RunsAnyhow m n c.take_first-2.new.self) (let z : first + (newest + k) ≡ newest + first + k = omega arith in z)
    (anyhow_further m c.take_newest-count.new.self c.take_first-2.new.self (newest + k) first one c.take_first-2.ensures.runs)
    )
