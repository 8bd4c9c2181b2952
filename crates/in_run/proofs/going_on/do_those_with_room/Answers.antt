use Rattle.std.proofs.Common.{◌≡◌, ⊎_elim, Bool, ◌≤◌, ◌<◌, ◌+◌, ◌-◌, ℕ, suc, length, inr, true, false, refl, sym, ap, subst, ◌∙◌, length-append, arith}
use Rattle.std.specs.Prelude.{IsTrue, map}
use Rattle.std.specs.List.{remove}
use Rattle.std.proofs.lemmas.List.Edits.{length-remove}
use Rattle.std.proofs.lemmas.Bool.{cases_lt}
use Rattle.in_interaction.specs.Queues.{numbers_of}
use Rattle.in_reducer.specs.Machines.{MachineParts}
use Rattle.in_reducer.specs.Steps.{HasRoomAt, StepsAt}
use Rattle.in_run.specs.Advancing.{RunsAnyhow, no_step, then_any}
use Rattle.in_run.specs.Stops.{NoneHasRoom}
use Rattle.in_run.proofs.going_on.do_those_with_room.Goals as goal

-- an interaction takes one pair out of the queue
one_less : (m n : MachineParts) (i : ℕ) → i < length m.queue → StepsAt m i n → i ≤ length n.queue
one_less m n i lt s =
    let out = length-remove m.queue i lt in
    let all = ap length s.queue ∙ length-append (remove m.queue i) (map numbers_of s.made) in
    omega (arith, out, all, lt)

has_none : (b : Bool) → b ≡ false → IsTrue b → ⊥
has_none b e holds = let f : false ≡ true = sym e ∙ holds in cc

pub loop-number-init : goal.loop-number-init
loop-number-init c =
    let many = c.pairs-number.ensures.count in
    record { goes = no_step c.args.machine.now; most = omega arith; there = omega (arith, many); none = λ _. (refl, λ i above below room. omega (arith, above, below, many)) }

pub loop-number-preserved-then-has_room : goal.loop-number-preserved-then-has_room
loop-number-preserved-then-has_room c =
    let h = c.loop-number.invariant in
    let some = c.loop-number-test.true in
    let there = h.there in
    let most = h.most in
    let fewer = c.if-count-most.false in
    let i = c.loop-number.number - 1 in
    record {
      goes = subst (λ (k : ℕ). RunsAnyhow c.args.machine.now k c.step.new.self) (let z : suc c.loop-number.count ≡ c.loop-number.count + 1 = omega arith in z) (then_any c.args.machine.now c.loop-number.machine c.step.new.self c.loop-number.count i h.goes c.step.ensures.steps);
      most = omega (arith, most, fewer);
      there = one_less c.loop-number.machine c.step.new.self i (omega (arith, there, some)) c.step.ensures.steps;
      none = λ zero. absurd (omega (arith, zero));
    }

pub loop-number-preserved : goal.loop-number-preserved
loop-number-preserved c =
    let h = c.loop-number.invariant in
    let some = c.loop-number-test.true in
    let there = h.there in
    record {
      goes = h.goes;
      most = h.most;
      there = omega (arith, there, some);
      none = λ zero. (
          let was = h.none zero in (
            was.0,
            λ i above below room. ⊎_elim
                (λ low. has_none c.has_room.result c.if-has_room.false (c.has_room.ensures.1 (subst (λ (m : MachineParts). HasRoomAt m (c.loop-number.number - 1)) (sym was.0) (subst (HasRoomAt c.args.machine.now) (let z : i ≡ c.loop-number.number - 1 = omega (arith, low, above, some) in z) room))))
                (λ high. was.1 i high below room)
                (cases_lt i c.loop-number.number),
          )
          );
    }

pub returns-clause-none : goal.returns-clause-none
returns-clause-none c = λ zero. (
    let was = c.loop-number.invariant.none zero in
    let done = c.loop-number-test.false in
    (was.0, inr (subst NoneHasRoom (sym was.0) (λ i below room. was.1 i (omega (arith, done)) below room)))
    )
