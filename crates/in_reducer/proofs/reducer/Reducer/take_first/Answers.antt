use Rattle.std.proofs.Common.{◌≡◌, ◌+◌, ℕ, refl, sym, subst, ◌∙◌, arith}
use Rattle.in_check.specs.Programs.{Program}
use Rattle.in_compile.specs.Templates.{AreTemplatesOf}
use Rattle.in_reducer.specs.Runs.{at_start}
use Rattle.in_reducer.specs.Same.{RunsUpToNumbers}
use Rattle.in_reducer.proofs.Numbers.Before.{runs_on}
use Rattle.in_reducer.proofs.Numbers.SameKind.{same_self}
use Rattle.in_reducer.proofs.Steps.RoomOn.{program_stays}
use Rattle.in_reducer.proofs.reducer.Reducer.take_first.Goals as goal

pub loop-count-init : goal.loop-count-init
loop-count-init c = record { few = omega arith; runs = (c.args.self.now, same_self c.args.self.now, at_start c.args.self.now); program = refl }

pub sure_steps-sure-requires : goal.sure_steps-sure-requires
sure_steps-sure-requires c = subst (λ (p : Program). AreTemplatesOf p c.args.templates.now) (sym c.loop-count.invariant.program) c.requires

pub take_sure-more-requires : goal.take_sure-more-requires
take_sure-more-requires c = (subst (λ (p : Program). AreTemplatesOf p c.args.templates.now) (sym c.loop-count.invariant.program) c.requires, c.sure_steps-sure.ensures.room)

pub loop-count-preserved : goal.loop-count-preserved
loop-count-preserved c =
    let m = c.args.self.now in
    let i = c.loop-count.invariant in
    let k = c.loop-count.count in
    let more = c.take_sure-more.result in
    let now = c.take_sure-more.new.self in
    record {
      few = (let low = c.loop-count-test.true in let a = c.take_sure-more.ensures.most in let b = c.sure_steps-sure.ensures.most in omega (arith, low, a, b));
      runs = subst (λ (n : ℕ). RunsUpToNumbers m n now) (let z : more + k ≡ k + more = omega arith in z) (runs_on m c.loop-count.self now k more c.pairs.ensures.reducer i.runs c.take_sure-more.ensures.runs);
      program = program_stays c.loop-count.self now more c.take_sure-more.ensures.runs ∙ i.program;
    }

pub returns-then-more-sure-clause-runs : goal.returns-then-more-sure-clause-runs
returns-then-more-sure-clause-runs c =
    let m = c.args.self.now in
    let k = c.loop-count.count in
    let more = c.take_sure-more.result in
    let now = c.take_sure-more.new.self in
    subst (λ (n : ℕ). RunsUpToNumbers m n now) (let z : more + k ≡ k + more = omega arith in z) (runs_on m c.loop-count.self now k more c.pairs.ensures.reducer c.loop-count.invariant.runs c.take_sure-more.ensures.runs)
