use Rattle.std.proofs.Common.{ap, ◌∙◌}
use Rattle.in_simple_deriving.specs.TaskStates.{state_of, with_task}
use Rattle.in_simple_deriving.proofs.States.{one_more_task}
use Rattle.in_simple_deriving.proofs.plans.TaskPlan.push.Goals as goal

pub returns : goal.returns
returns c =
    let x = c.self.inside.heads.now in
    let n = c.self.inside.node in
    ap (state_of x n) c.in_ok-push.ensures.ok ∙ one_more_task x n c.self.inside.tasks c.args.task ∙ ap (λ z. with_task z c.args.task) c.self.view_is
