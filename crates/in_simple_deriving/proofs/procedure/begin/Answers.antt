use Rattle.std.proofs.Common.{◌++◌, [], reverse, ap, sym, subst, ◌∙◌}
use Rattle.in_simple_deriving.specs.Procedure.{IsWork}
use Rattle.in_simple_deriving.specs.Stacks.{IsUnderWay}
use Rattle.in_simple_deriving.proofs.Stacking.{none_more}
use Rattle.in_simple_deriving.proofs.Working.{start_work}
use Rattle.in_simple_deriving.proofs.procedure.begin.Goals as goal

pub returns-clause-work : goal.returns-clause-work
returns-clause-work c =
    let o = c.args.open.now in
    let e = c.in_ok-expand.ensures.tasks ∙ ap (λ z. c.in_ok-tasks.tasks ++ reverse z) c.new.ensures ∙ none_more c.in_ok-tasks.tasks in
    subst (λ z. IsWork o z) (sym e) (start_work o c.in_ok-tasks.tasks c.in_ok-tasks.ensures.work)

pub returns-clause-steps : goal.returns-clause-steps
returns-clause-steps c =
    let o = c.args.open.now in
    let ts = c.in_ok-tasks.tasks in
    let x = c.expand.new.self in
    let e = c.in_ok-expand.ensures.tasks ∙ ap (λ z. ts ++ reverse z) c.new.ensures ∙ none_more ts in
    subst (λ z. IsUnderWay o (reverse x.tasks) x.steps z) (sym (c.in_ok-expand.ensures.roots ∙ c.new-2.ensures))
    (subst (λ z. IsUnderWay o (reverse x.tasks) z []) (sym (c.in_ok-expand.ensures.steps ∙ c.in_ok-with_room.ensures)) (subst (λ z. IsUnderWay o z [] []) (sym e) c.in_ok-tasks.ensures.steps))
