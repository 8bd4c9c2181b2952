use Rattle.std.proofs.Common.{[], ◌∷◌, ◌≡◌, ◌+◌, suc, length, sym, ◌∙◌, ap, subst, arith}
use Rattle.in_simple_deriving.specs.Planned.{TakesJoints, TakesPart}
use Rattle.in_simple_deriving.specs.Procedure.{AreSizedTasks, Lists}
use Rattle.in_open_nets.specs.Parts.{IsRest}
use Rattle.in_open_nets.specs.Members.{nodes_in}
use Rattle.in_simple_deriving.specs.Progress.{PlansNet, Progress, after_ports, at_end, progress}
use Rattle.in_simple_deriving.specs.Stacks.{PutsShapes, no_wires, shape}
use Rattle.in_open_nets.specs.Stuck.{ports_of}
use Rattle.in_simple_deriving.proofs.Nets.{net_whole}
use Rattle.in_simple_deriving.proofs.Planning.{lists_part, plan_end}
use Rattle.in_simple_deriving.proofs.Taking.{before_other, part_taken}
use Rattle.in_simple_deriving.proofs.plans.tasks_of.Goals as goal

pub returns : goal.returns
returns c =
    let o = c.args.wired.now in
    let part = c.args.part.nodes in
    let n = c.args.part.head in
    let j = c.whole.inside in
    let p = j.plan in
    let k = suc (ports_of o n) + length o.nodes in
    let e : progress j.wired.now j.node p.rest j.turn ≡ progress o n c.of-begun.result.rest k =
    c.whole.view_is ∙ c.in_ok-whole.ensures ∙ ap at_end c.in_ok-touched.ensures ∙ ap (λ s. at_end (after_ports s)) c.of-begun.ensures.start in
    let x : PlansNet o n k p = subst (λ (s : Progress). PlansNet s.net s.node s.next p) e c.whole.invariant in
    let left : IsRest n part p.rest = subst (λ (s : Progress). IsRest n part s.rest) (sym e) c.of-begun.ensures.rest in
    let net = x.orderly.net in
    let s = nodes_in part in
    let f = c.requires.first in
    let same = sym c.into_tasks.ensures in
    record {
      steps = subst (λ z. PutsShapes o z (shape s no_wires ∷ [])) same (net_whole o net n part p x.plan x.net left f.here);
      takes = subst (TakesPart o s) same (part_taken o net n part p f left (subst (λ z. TakesJoints o n k z p) (before_other o n k (omega arith)) x.takes));
      net = x.orderly;
      lists = subst (Lists o n s 0) same (lists_part o net n part p.rest left 0 p.tasks (plan_end o net n p x.plan));
      sized = subst (AreSizedTasks o) same x.plan.sized;
    }
