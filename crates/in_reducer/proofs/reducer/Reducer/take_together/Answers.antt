use Rattle.std.proofs.Common.{◌≡◌, ◌<◌, ◌+◌, ℕ, suc, refl, ap, subst, slice_get, ◌∙◌, arith}
use Rattle.std.proofs.lemmas.Option.{slice_get_within}
use Rattle.in_base.proofs.Each.{at_index}
use Rattle.in_reducer.specs.Runs.{at_start}
use Rattle.in_reducer.specs.Same.{RunsUpToNumbers}
use Rattle.in_reducer.specs.Taking.{together}
use Rattle.in_reducer.proofs.Numbers.Before.{takes_step}
use Rattle.in_reducer.proofs.Numbers.SameKind.{same_self}
use Rattle.in_reducer.proofs.Steps.Ahead.{goes_on}
use Rattle.in_reducer.proofs.Steps.RoomOn.{reducer_on}
use Rattle.in_reducer.proofs.reducer.Reducer.take_together.Goals as goal

pub loop-number-init : goal.loop-number-init
loop-number-init c = record {
  runs = (c.args.self.now, same_self c.args.self.now, at_start c.args.self.now);
  ahead = record { long = c.read_heads.ensures.long; each = λ k h at. c.read_heads.ensures.read k h (ap (slice_get c.read_heads.new.heads) (let z : k ≡ 0 + k = omega arith in z) ∙ at) };
  program = refl;
}

pub step_read-requires-clause-room : goal.step_read-requires-clause-room
step_read-requires-clause-room c =
    let m = c.loop-number.self in
    let read = c.read_heads.new.heads in
    let x = c.loop-number.number in
    let low : x < together = c.loop-number-test.true in
    let long = c.read_heads.ensures.long in
    let at = at_index read x (omega (arith, low, long)) in
    let heads = c.loop-number.invariant.ahead.each 0 at.0 (ap (slice_get read) (let z : x + 0 ≡ x = omega arith in z) ∙ at.1) in
    c.requires.room x m low c.loop-number.invariant.runs (slice_get_within m.queue 0 heads.pair heads.stands)

pub loop-number-preserved : goal.loop-number-preserved
loop-number-preserved c =
    let i = c.loop-number.invariant in
    let m = c.args.self.now in
    let now = c.loop-number.self in
    let new = c.step_read.new.self in
    let x = c.loop-number.number in
    let step = c.step_read.ensures in
    record {
      runs = subst (λ (n : ℕ). RunsUpToNumbers m n new) (let z : suc x ≡ x + 1 = omega arith in z) (takes_step m now new x c.pairs.ensures.reducer i.runs step);
      ahead = goes_on now new (reducer_on m now x c.pairs.ensures.reducer i.runs) step c.read_heads.new.heads x i.ahead;
      program = step.2.step.program ∙ step.1.1.program ∙ i.program;
    }
