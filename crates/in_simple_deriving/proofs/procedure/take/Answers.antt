use Rattle.std.proofs.Common.{◌∷◌, length, reverse, sym, subst}
use Rattle.in_simple_deriving.specs.declared.plans.Task.TheVariants.{Derive}
use Rattle.in_open_nets.specs.Members.{nodes_in}
use Rattle.in_open_nets.specs.Parts.{IsFirst, NoneSplits}
use Rattle.in_simple_deriving.specs.Procedure.{IsWork, AreFewer}
use Rattle.in_simple_deriving.specs.Stacks.{IsUnderWay}
use Rattle.in_simple_deriving.proofs.Stacking.{under_derive}
use Rattle.in_simple_deriving.proofs.Working.{expand_work, expand_fewer, stuck_first, stuck_underivable}
use Rattle.in_simple_deriving.proofs.procedure.take.Goals as goal

pub returns-in_ok-expand : goal.returns-in_ok-expand
returns-in_ok-expand c =
    let o = c.args.wired.now in
    let part = c.args.part in
    let ts = reverse c.args.work.now.tasks in
    let n = part.head in
    let old = c.args.work.now in
    let ps = c.in_ok-tasks.tasks in
    let work = c.requires.work in
    let net = c.nodes.ensures.net.net in
    let f = subst (λ z. IsFirst z part.nodes n) work.sized.0.0 (c.is_taken_apart.ensures.first c.if-is_taken_apart.true) in
    let e = c.in_ok-expand.ensures.tasks in
    let x = c.expand.new.self in
    let t = c.in_ok-tasks.ensures in (
      subst (λ z. IsWork o z) (sym e) (expand_work o net part n ps ts work f t.lists t.sized),
      subst (λ z. AreFewer o (Derive part ∷ ts) z) (sym e) (expand_fewer o net part n ps ts work f t.lists),
      subst (λ z. IsUnderWay o (reverse x.tasks) x.steps z) (sym c.in_ok-expand.ensures.roots)
          (subst (λ z. IsUnderWay o (reverse x.tasks) z old.roots) (sym c.in_ok-expand.ensures.steps) (subst (λ z. IsUnderWay o z old.steps old.roots) (sym e) (under_derive o part ps ts old.steps old.roots t.steps t.takes c.requires.steps))),
    )

pub returns-in_ok-stuck : goal.returns-in_ok-stuck
returns-in_ok-stuck c =
    let o = c.args.wired.now in
    let part = c.args.part in
    let ts = reverse c.args.work.now.tasks in
    let net = c.nodes.ensures.net.net in
    let none = subst (λ z. NoneSplits z part.nodes (length z.nodes)) c.requires.work.sized.0.0 (c.is_taken_apart.ensures.stuck c.if-is_taken_apart.false) in
    let s = stuck_first o net part ts c.requires.work none in
    (stuck_underivable o net (nodes_in part.nodes) s, (nodes_in part.nodes, s, c.in_ok-stuck.ensures))
