use Rattle.std.proofs.Common.{◌≡◌, ◌+◌, ℕ, suc, List, Some, slice_get, set, refl, sym, ap, subst, ◌∙◌, arith}
use Rattle.in_check.specs.Programs.{Program}
use Rattle.in_compile.specs.PlacedTemplates.{PlacedTemplateParts}
use Rattle.in_compile.specs.Templates.{TemplatesParts, AreTemplatesOf, template_at}
use Rattle.in_rounds.specs.Gathers.{GatherParts, bags_of}
use Rattle.in_rounds.specs.Holding.{HaveAllLeased}
use Rattle.in_rounds.specs.declared.gather.JobState.{JobState}
use Rattle.in_rounds.specs.declared.gather.JobState.TheVariants.{Kept, Taken}
use Rattle.in_arena.specs.Bags.{IsBagOf}
use Rattle.in_reducer.specs.Inside.{reducer_view}
use Rattle.in_reducer.specs.Lent.{AreSettled}
use Rattle.in_reducer.specs.Runs.{Runs, at_start, then_step}
use Rattle.in_reducer.proofs.Public.Found as found
use Rattle.in_rounds.proofs.WhileLent as lending
use Rattle.in_rounds.proofs.stitching.stitch_all.Goals as goal

pub loop-job-init : goal.loop-job-init
loop-job-init c = record {
  all = c.requires.all;
  templates = c.requires.templates;
  made = c.requires.made;
  lent = c.requires.lent;
  runs = at_start (reducer_view c.args.body.now);
  left = (let j = c.requires.jobs in omega (arith, j));
  program = refl;
}

pub put_back-requires-clause-of : goal.put_back-requires-clause-of
put_back-requires-clause-of c = lending.taken_is_bag c.loop-job.gather.slots c.loop-job.job c.in-Some.done c.in-Some.ensures.0 c.loop-job.body.arena c.loop-job.invariant.lent

pub returns-then-not-is_for_first-clause-lent : goal.returns-then-not-is_for_first-clause-lent
returns-then-not-is_for_first-clause-lent c =
    let slots = c.loop-job.gather.slots in
    let j = c.loop-job.job in
    let d = c.in-Some.done in
    let a = c.loop-job.body.arena in
    let b = c.put_back.new.body.arena in
    subst (λ (g : GatherParts). HaveAllLeased (bags_of g.slots) b) (sym c.in-Some.ensures.1) (lending.have_left slots j d c.in-Some.ensures.0 a c.loop-job.invariant.lent b c.put_back.ensures.settled)

pub stitch-requires-clause-template : goal.stitch-requires-clause-template
stitch-requires-clause-template c =
    let h = c.if-not-is_for_first.ensures refl in
    let m = reducer_view c.loop-job.body in
    let d = c.in-Some.done in
    let ts = c.args.templates.now in
    let made = c.loop-job.invariant.made c.loop-job.job d c.in-Some.ensures.0 in
    let at = ap (λ (z : TemplatesParts). template_at z d.heads.0.0 d.heads.1.0) (sym made) ∙ c.is_its_template.ensures.template ∙ ap (λ (z : PlacedTemplateParts). Some z.template) (sym c.into_placed.ensures) in
    found.is_template m c.loop-job.invariant.all.net.reducer 0 h.pair h.stands ts c.loop-job.invariant.templates d.heads.0 d.heads.1 h.one h.two c.into_placed.result.template at

pub stitch-requires-clause-of : goal.stitch-requires-clause-of
stitch-requires-clause-of c =
    subst (λ (z : PlacedTemplateParts). IsBagOf z.placed.bag c.loop-job.body.arena) (sym c.into_placed.ensures)
    (lending.taken_is_bag c.loop-job.gather.slots c.loop-job.job c.in-Some.done c.in-Some.ensures.0 c.loop-job.body.arena c.loop-job.invariant.lent)

pub loop-job-preserved : goal.loop-job-preserved
loop-job-preserved c =
    let slots = c.loop-job.gather.slots in
    let j = c.loop-job.job in
    let d = c.in-Some.done in
    let a = c.loop-job.body.arena in
    let b = c.stitch.new.self.arena in
    let now : c.take.new.self.slots ≡ set slots j Taken = ap (λ (g : GatherParts). g.slots) c.in-Some.ensures.1 in
    let settled = subst (λ (z : PlacedTemplateParts). AreSettled z.placed.bag a b) c.into_placed.ensures c.stitch.ensures.settled in
    let same = ap (λ x. x.now.program) c.stitch.ensures.program in
    record {
      all = c.stitch.ensures.all;
      templates = subst (λ (p : Program). AreTemplatesOf p c.args.templates.now) (sym same) c.loop-job.invariant.templates;
      made = λ k e at. c.loop-job.invariant.made k e (lending.left_at slots j k e (subst (λ (zs : List JobState). slice_get zs k ≡ Some (Kept e)) now at));
      lent = subst (λ (zs : List JobState). HaveAllLeased (bags_of zs) b) (sym now) (lending.have_left slots j d c.in-Some.ensures.0 a c.loop-job.invariant.lent b settled);
      runs = subst (λ (k : ℕ). Runs (reducer_view c.args.body.now) k (reducer_view c.stitch.new.self)) (let z : suc j ≡ j + 1 = omega arith in z)
          (then_step (reducer_view c.args.body.now) (reducer_view c.loop-job.body) (reducer_view c.stitch.new.self) j c.loop-job.invariant.runs c.stitch.ensures.steps);
      left = (let l = c.loop-job.invariant.left in let f = lending.one_fewer c.loop-job.body.queue.items _ c.stitch.new.self.queue.items c.stitch.ensures.steps.queue in omega (arith, l, f));
      program = c.stitch.ensures.program ∙ c.loop-job.invariant.program;
    }
