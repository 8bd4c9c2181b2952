use Rattle.std.proofs.Common.{◌≡◌, ◌+◌, subst, arith}
use Rattle.in_run.specs.Advancing.{RunsAnyhow, no_step, then_phase}
use Rattle.in_run.proofs.going_on.go_on.Goals as goal

pub returns-then-workers-eq1-clause-goes : goal.returns-then-workers-eq1-clause-goes
returns-then-workers-eq1-clause-goes c = no_step c.args.machine.now

pub returns-clause-goes : goal.returns-clause-goes
returns-clause-goes c =
    let m = c.args.machine.now in
    let some = c.do_those_with_room-count in
    subst (λ k. RunsAnyhow m k c.take_newest.new.self) (let z : c.take_newest.result + some.result ≡ some.result + c.take_newest.result = omega arith in z)
    (then_phase m some.new.machine c.take_newest.new.self some.result c.take_newest.result some.ensures.goes c.take_newest.ensures.phase)
