use Rattle.std.proofs.Common.{[], ◌∷◌, reverse, subst}
use Rattle.std.specs.Prelude.{MatchOption}
use Rattle.in_simple_deriving.specs.declared.plans.Task.TheVariants.{Derive}
use Rattle.in_simple_deriving.specs.Stacks.{AdvancesTasks}
use Rattle.in_simple_deriving.proofs.Finishing.{derivation_done, order_done}
use Rattle.in_simple_deriving.proofs.procedure.finish.Goals as goal

pub returns : goal.returns
returns c =
    let o = c.args.wired.now in
    let old = reverse c.loop-part.work.tasks in
    let l = c.loop-part.work in
    let x = c.next_part.new.self in
    let p = subst (λ z. MatchOption z (AdvancesTasks old l.steps l.roots [] x.steps x.roots) (λ part. AdvancesTasks old l.steps l.roots (Derive part ∷ reverse x.tasks) x.steps x.roots)) c.in_default.is c.in_ok-part.ensures.steps in
    let done = p o c.loop-part.invariant.steps in
    (derivation_done o c.nodes.ensures.net.net x.steps x.roots done, order_done o c.nodes.ensures.net.net x.steps x.roots done)
