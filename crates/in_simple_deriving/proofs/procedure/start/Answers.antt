use Rattle.std.proofs.Common.{◌++◌, ◌∷◌, ◌<◌, [], ◌∙◌, length, ap, sym, subst, arith}
use Rattle.in_simple_deriving.specs.declared.plans.Task.TheVariants.{Derive}
use Rattle.in_open_nets.specs.OpenNets.{OpenNet}
use Rattle.in_simple_deriving.specs.Stacks.{IsUnderWay}
use Rattle.in_open_nets.proofs.Public.{if_ok_both}
use Rattle.in_simple_deriving.proofs.Finishing.{under_all, under_none}
use Rattle.in_simple_deriving.proofs.procedure.start.Goals as goal

pub returns-in_ok-append-clause-steps : goal.returns-in_ok-append-clause-steps
returns-in_ok-append-clause-steps c =
    let o = c.args.open.now in
    let links = c.in_ok-loose.field-0 in
    let part = c.whole.result in
    let e = c.in_ok-append.ensures ∙ ap (λ z. z ++ links) (c.in_ok-push.ensures.ok ∙ ap (λ z. z ++ Derive part ∷ []) c.new-tasks.ensures) in
    let count = c.nodes-count.ensures in
    let size = c.whole.ensures.size ∙ ap (λ (z : OpenNet). length z.nodes) c.requires in
    subst (λ z. IsUnderWay o z [] []) (sym e)
    (under_all o part links size (let some = c.if-count-gt0.true in omega arith) (λ n l. c.whole.ensures.all n (subst (λ (z : OpenNet). n < length z.nodes) (sym c.requires) l)) c.in_ok-loose.ensures.steps c.in_ok-loose.ensures.order)

pub returns-else-count-gt0-clause-steps : goal.returns-else-count-gt0-clause-steps
returns-else-count-gt0-clause-steps c =
    let o = c.args.open.now in
    let count = c.nodes-count.ensures in
    let none = c.if-count-gt0.false in
    let links = c.loose-else-count-gt0 in
    if_ok_both links.result (λ ts h k. under_none o ts (omega arith) h k) links.ensures.steps links.ensures.order
