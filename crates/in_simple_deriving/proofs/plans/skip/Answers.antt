use Rattle.std.proofs.Common.{◌≡◌, append-nil, sym, subst, arith}
use Rattle.in_simple_deriving.specs.Planned.{Skips, WithEmpties}
use Rattle.in_simple_deriving.proofs.Nets.{skips_none, skips_more}
use Rattle.in_simple_deriving.proofs.Planning.{keeps_make, keeps_same}
use Rattle.in_simple_deriving.proofs.Taking.{more_empties}
use Rattle.in_simple_deriving.proofs.plans.skip.Goals as goal

pub loop-class-init : goal.loop-class-init
loop-class-init c = record { plan = keeps_same c.args.plan; skips = skips_none c.args.plan; tasks = sym (append-nil c.args.plan.tasks) }

pub loop-class-preserved : goal.loop-class-preserved
loop-class-preserved c = record {
  plan = keeps_make c.args.plan c.loop-class.skipped _ _ c.loop-class.invariant.plan c.in_ok-skipped.ensures;
  skips = skips_more c.loop-class.class c.args.plan c.loop-class.skipped _ c.loop-class.invariant.skips c.in_ok-skipped.ensures;
  tasks = more_empties c.loop-class.class c.args.plan c.loop-class.skipped _ c.loop-class.invariant.tasks c.in_ok-skipped.ensures;
}

pub returns-clause-skips : goal.returns-clause-skips
returns-clause-skips c =
    let a = c.loop-class-test.false in
    let b = c.loop-class.auto.class-end in
    let e : c.loop-class.class ≡ c.args.classes = omega arith in
    subst (λ z. Skips z c.args.plan c.loop-class.skipped) e c.loop-class.invariant.skips

pub returns-clause-tasks : goal.returns-clause-tasks
returns-clause-tasks c =
    let a = c.loop-class-test.false in
    let b = c.loop-class.auto.class-end in
    let e : c.loop-class.class ≡ c.args.classes = omega arith in
    subst (λ z. WithEmpties z c.args.plan c.loop-class.skipped) e c.loop-class.invariant.tasks
