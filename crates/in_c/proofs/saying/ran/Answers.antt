use Rattle.std.proofs.Common.{inl, inr, refl}
use Rattle.in_command_line.specs.declared.action.Action.TheVariants.{Run}
use Rattle.in_c.specs.Answers.{IsRunSaid, IsSaid}
use Rattle.in_c.proofs.Given.{anyway, so_that}
use Rattle.in_c.proofs.saying.ran.Goals as goal

pub returns-in-Some-clause-ok : goal.returns-in-Some-clause-ok
returns-in-Some-clause-ok c =
    let l = c.in-Some.limits in
    so_that (IsSaid c.args.text_limits (Run l) c.args.text.now) (IsRunSaid c.args.text_limits c.args.limit c.args.cells c.args.text.now) _ (λ lines s h. inl (l, c.in-Some.ensures, h)) c.run_said.ensures

pub returns-in-Some-clause-err : goal.returns-in-Some-clause-err
returns-in-Some-clause-err c = anyway _ _ (inl (c.in-Some.limits, c.in-Some.ensures, inr (refl, refl)))
