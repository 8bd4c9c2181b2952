use Rattle.std.proofs.Common.{◌≡◌, ◌<◌, ◌≤◌, ◌-◌, ◌+◌, ℕ, suc, refl, subst, ◌∙◌, arith}
use Rattle.in_reducer.specs.Runs.{at_start}
use Rattle.in_reducer.specs.Same.{RunsUpToNumbers}
use Rattle.in_reducer.specs.Taking.{together}
use Rattle.in_reducer.proofs.Numbers.Before.{runs_on, takes_step}
use Rattle.in_reducer.proofs.Numbers.SameKind.{same_self}
use Rattle.in_reducer.proofs.Steps.RoomOn.{program_stays, room_later}
use Rattle.in_reducer.proofs.reducer.Reducer.take_sure.Goals as goal

pub loop-left-init : goal.loop-left-init
loop-left-init c = record {
  few = omega arith;
  runs = subst (λ (n : ℕ). RunsUpToNumbers c.args.self.now n c.args.self.now) (let z : 0 ≡ c.args.sure - c.args.sure = omega arith in z) (c.args.self.now, same_self c.args.self.now, at_start c.args.self.now);
  program = refl;
}

pub returns-clause-runs : goal.returns-clause-runs
returns-clause-runs c =
    let none = c.loop-left-test.false in
    let left = c.loop-left.left in
    subst (λ (n : ℕ). RunsUpToNumbers c.args.self.now n c.loop-left.self) (let z : c.args.sure - left ≡ c.args.sure = omega (arith, none) in z) c.loop-left.invariant.runs

-- ---- several at once

pub take_together-requires-clause-room : goal.take_together-requires-clause-room
take_together-requires-clause-room c =
    let sure = c.args.sure in
    let left = c.loop-left.left in
    let some = c.if-left.true in
    let few = c.loop-left.invariant.few in
    room_later c.args.self.now c.loop-left.self c.pairs.ensures.reducer (sure - left) together sure c.loop-left.invariant.runs (let z : together + (sure - left) ≤ sure = omega (arith, some, few) in z) c.requires.1

pub loop-left-preserved-then-left : goal.loop-left-preserved-then-left
loop-left-preserved-then-left c =
    let i = c.loop-left.invariant in
    let m = c.args.self.now in
    let sure = c.args.sure in
    let left = c.loop-left.left in
    let some = c.if-left.true in
    let few = i.few in
    let now = c.loop-left.self in
    let new = c.take_together.new.self in
    record {
      few = omega (arith, few);
      runs = subst (λ (n : ℕ). RunsUpToNumbers m n new) (let z : together + (sure - left) ≡ sure - (left - together) = omega (arith, some, few) in z) (runs_on m now new (sure - left) together c.pairs.ensures.reducer i.runs c.take_together.ensures);
      program = program_stays now new together c.take_together.ensures ∙ i.program;
    }

-- ---- one

pub step_oldest-requires-clause-room : goal.step_oldest-requires-clause-room
step_oldest-requires-clause-room c =
    let sure = c.args.sure in
    let left = c.loop-left.left in
    let some = c.loop-left-test.true in
    let few = c.loop-left.invariant.few in
    c.requires.1 (sure - left) c.loop-left.self (let z : sure - left < sure = omega (arith, some, few) in z) c.loop-left.invariant.runs (let e = c.pairs-pairs.ensures.count in let f = c.if-pairs-eq0.false in omega (arith, e, f))

pub loop-left-preserved : goal.loop-left-preserved
loop-left-preserved c =
    let i = c.loop-left.invariant in
    let m = c.args.self.now in
    let sure = c.args.sure in
    let left = c.loop-left.left in
    let some = c.loop-left-test.true in
    let few = i.few in
    let step = c.step_oldest.ensures in
    record {
      few = omega (arith, few);
      runs = subst (λ (n : ℕ). RunsUpToNumbers m n c.step_oldest.new.self) (let z : suc (sure - left) ≡ sure - (left - 1) = omega (arith, some, few) in z) (takes_step m c.loop-left.self c.step_oldest.new.self (sure - left) c.pairs.ensures.reducer i.runs step);
      program = step.2.step.program ∙ step.1.1.program ∙ i.program;
    }
