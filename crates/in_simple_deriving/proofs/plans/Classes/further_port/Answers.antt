use Rattle.std.proofs.Common.{◌≡◌, ◌<◌, ◌-◌, cond, sym, ◌∙◌, subst}
use Rattle.in_open_nets.specs.OpenNets.{class_in}
use Rattle.in_simple_deriving.specs.Progress.{Progress}
use Rattle.in_open_nets.specs.Stuck.{ports_of}
use Rattle.in_simple_deriving.specs.Procedure.{with_task}
use Rattle.in_simple_deriving.specs.declared.plans.StackStep.TheVariants.{Mix}
use Rattle.in_simple_deriving.specs.declared.plans.Task.TheVariants.{Make}
use Rattle.in_simple_deriving.proofs.Stages.{further_next}
use Rattle.in_simple_deriving.proofs.plans.Classes.further_port.Goals as goal
use Rattle.in_simple_deriving.proofs.plans.Classes.further_port.Goals.{then-came+in_ok-plan, else-came}

pub invariant_of-result : goal.invariant_of-result
invariant_of-result c =
    let o = c.self.inside.wired.now in
    let n = c.self.inside.node in
    let i = c.self.inside.port in
    let r = c.in_ok-next.next in
    let s = c.if-came.plan in
    let came = c.in_ok-next.came in
    let same = sym c.self.view_is in
    let lt : i < ports_of o n = subst (λ (s : Progress). s.next < ports_of s.net s.node) same c.requires.port in
    let class : class_in o n i ≡ class_in o n (i - 1) = subst (λ (s : Progress). class_in s.net s.node s.next ≡ class_in s.net s.node (s.next - 1)) same c.requires.class in
    let mixed : s ≡ cond came (with_task r (Make Mix)) r = elim c.if-came.branch [
      | then-came+in_ok-plan w ↦ subst (λ b. s ≡ cond b (with_task r (Make Mix)) r) (sym w.if-came.true) (w.plan-is ∙ w.in_ok-plan.ensures)
      | else-came w ↦ subst (λ b. s ≡ cond b (with_task r (Make Mix)) r) (sym w.if-came.false) w.plan-is
    ] in
    (further_next o n i c.self.inside.begun c.self.inside.plan c.self.invariant lt r s came (c.self.invariant.last ∙ sym class) c.in_ok-next.ensures.plan c.in_ok-next.ensures.adds c.in_ok-next.ensures.comes mixed).0
