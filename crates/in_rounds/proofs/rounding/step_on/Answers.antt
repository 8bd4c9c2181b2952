use Rattle.std.proofs.Common.{◌≡◌, ◌⊎◌, inl, inr, ◌<◌, ◌+◌, ℕ, suc, sym, subst, arith}
use Rattle.in_check.specs.Programs.{Program}
use Rattle.in_compile.specs.Templates.{AreTemplatesOf}
use Rattle.in_reducer.specs.Machines.{MachineParts}
use Rattle.in_reducer.specs.Runs.{Runs, then_step}
use Rattle.in_reducer.specs.Steps.{HasRoomAt}
use Rattle.in_rounds.proofs.WhileLent.{one_fewer}
use Rattle.in_rounds.proofs.rounding.step_on.Goals as goal

pub loop-count-preserved : goal.loop-count-preserved
loop-count-preserved c =
    let k = c.loop-count.count in
    let h = c.loop-count.invariant in
    let now = c.loop-count.reducer in
    let after = c.step.new.self in
    record {
      templates = subst (λ (p : Program). AreTemplatesOf p c.args.templates.now) (sym c.step.ensures.step.program) h.templates;
      runs = λ m run. subst (λ (j : ℕ). Runs m j after) (let z : suc k ≡ k + 1 = omega arith in z) (then_step m now after k (h.runs m run) c.step.ensures);
      from = (let f = h.from in omega (arith, f));
      most = (let t = c.loop-count-test.true in omega (arith, t));
      left = (let l = h.left in let f = one_fewer now.queue _ after.queue c.step.ensures.queue in omega (arith, l, f));
      first = inl (let f = h.from in omega (arith, f));
    }

pub returns-else-has_room-clause-some : goal.returns-else-has_room-clause-some
returns-else-has_room-clause-some c less room = go c.loop-count.invariant.first
  where
    go : (c.args.done < c.loop-count.count) ⊎ ((c.loop-count.count ≡ c.args.done) × (c.loop-count.reducer ≡ c.args.reducer.now)) → c.args.done < c.loop-count.count
    go (inl l) = l
    go (inr h) = absurd (let no = c.if-has_room.false in let yes = c.has_room.ensures.1 (subst (λ (m : MachineParts). HasRoomAt m 0) (sym h.1) room) in cc)
