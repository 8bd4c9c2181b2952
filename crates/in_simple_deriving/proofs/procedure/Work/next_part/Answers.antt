use Rattle.std.proofs.lemmas.List.{reverse-append}
use Rattle.std.proofs.Common.{◌≡◌, [], ◌∷◌, ◌∙◌, reverse, ap, sym, subst}
use Rattle.in_simple_deriving.specs.declared.plans.Task.TheVariants.{Make}
use Rattle.in_simple_deriving.specs.Procedure.{PassesSteps}
use Rattle.in_simple_deriving.specs.Stacks.{IsUnderWay}
use Rattle.in_simple_deriving.proofs.Stacking.{under_make}
use Rattle.in_simple_deriving.proofs.Working.{pass_make}
use Rattle.in_simple_deriving.proofs.procedure.Work.next_part.Goals as goal

pub loop-task-preserved : goal.loop-task-preserved
loop-task-preserved c =
    let l = c.loop-task in
    let ts = c.make.new.self.tasks in
    let old = reverse c.args.self.now.tasks in
    let e : reverse l.self.tasks ≡ Make c.in-Make.joint ∷ reverse ts = ap reverse c.in-Some.ensures ∙ reverse-append c.pop.new.self (c.in-Some.task ∷ []) ∙ ap (λ z. z ∷ reverse c.pop.new.self) c.in-Make.is ∙ ap (λ z. Make c.in-Make.joint ∷ reverse z) (sym c.make.ensures.tasks) in
    record {
      passes = pass_make old (reverse ts) c.in-Make.joint (subst (λ z. PassesSteps old z) e l.invariant.passes);
      advances = λ o u. under_make o c.in-Make.joint (reverse ts) l.self.steps l.self.roots c.make.new.self.steps c.make.new.self.roots c.in_ok-make-in-Make.ensures.made (subst (λ z. IsUnderWay o z l.self.steps l.self.roots) e (l.invariant.advances o u));
    }
