use Rattle.std.proofs.Common.{◌≡◌, ◌+◌, ℕ, subst, arith}
use Rattle.in_run.specs.Advancing.{RunsAnyhow, no_step, then_any}
use Rattle.in_run.proofs.StatesOfRuns.{takes_some, up_to_numbers_anyhow}
use Rattle.in_run.proofs.advancing.advance.Goals as goal

pub returns-then-workers-eq1-clause-goes : goal.returns-then-workers-eq1-clause-goes
returns-then-workers-eq1-clause-goes g c = up_to_numbers_anyhow c.args.machine.now c.take_first.new.self c.take_first.result c.take_first.ensures.runs

pub returns-then-workers-eq1-clause-some : goal.returns-then-workers-eq1-clause-some
returns-then-workers-eq1-clause-some g c =
    let goes = c.requires.goes in
    let limit = c.limit.ensures.limit in
    let within = goes.1 in
    let least = c.min.ensures in
    let turn = c.requires.turn in
    takes_some c.args.machine.now c.take_first.new.self c.take_first.result c.min.result c.take_first.ensures.runs goes.0 goes.2 (omega (arith, limit, within, least, turn)) c.take_first.ensures.fewer

pub returns-then-alone-ne0-clause-goes : goal.returns-then-alone-ne0-clause-goes
returns-then-alone-ne0-clause-goes g c =
    let taken = c.take_first-then-alone-ne0 in up_to_numbers_anyhow c.args.machine.now taken.new.self taken.result taken.ensures.runs

pub returns-then-alone-ne0-clause-some : goal.returns-then-alone-ne0-clause-some
returns-then-alone-ne0-clause-some g c =
    let taken = c.take_first-then-alone-ne0 in
    let goes = c.requires.goes in
    let limit = c.limit.ensures.limit in
    let within = goes.1 in
    let least = c.min-then-alone-ne0.ensures in
    let early = c.if-alone-ne0.true in
    takes_some c.args.machine.now taken.new.self taken.result c.min-then-alone-ne0.result taken.ensures.runs goes.0 goes.2 (omega (arith, limit, within, least, early)) taken.ensures.fewer

pub returns-clause-goes : goal.returns-clause-goes
returns-clause-goes g c =
    let m = c.args.machine.now in
    subst (λ (k : ℕ). RunsAnyhow m k c.by_parts.new.machine) (let z : c.by_parts.result + 1 ≡ 1 + c.by_parts.result = omega arith in z)
    (c.by_parts.ensures.goes m 1 (then_any m m c.step.new.self 0 0 (no_step m) c.step.ensures.steps))
