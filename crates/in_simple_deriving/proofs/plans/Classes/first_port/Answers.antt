use Rattle.std.proofs.Common.{◌≡◌, ◌<◌, ◌-◌, sym, subst, arith}
use Rattle.in_open_nets.specs.OpenNets.{class_in}
use Rattle.in_simple_deriving.specs.Progress.{Progress}
use Rattle.in_open_nets.specs.Stuck.{ports_of}
use Rattle.in_simple_deriving.proofs.Stages.{first_next}
use Rattle.in_simple_deriving.proofs.plans.Classes.first_port.Goals as goal

pub port-requires-clause-plan : goal.port-requires-clause-plan
port-requires-clause-plan c = (c.in_ok-skipped.ensures.plan c.self.inside.wired.now c.self.inside.node c.self.inside.port c.self.invariant.plan).0

pub invariant_of-result : goal.invariant_of-result
invariant_of-result c =
    let o = c.self.inside.wired.now in
    let n = c.self.inside.node in
    let i = c.self.inside.port in
    let k = c.args.class in
    let same = sym c.self.view_is in
    let lt : i < ports_of o n = subst (λ (s : Progress). s.next < ports_of s.net s.node) same c.requires.port in
    let class : k ≡ class_in o n i = subst (λ (s : Progress). k ≡ class_in s.net s.node s.next) same c.requires.class in
    let later : class_in o n (i - 1) < k = subst (λ (s : Progress). class_in s.net s.node (s.next - 1) < k) same c.requires.later in
    let last = c.self.invariant.last in
    let e = c.in_ok-skipped.ensures in
    let r = c.in_ok-plan.ensures in
    (first_next o n i c.self.inside.begun c.self.inside.plan c.self.invariant lt k c.in_ok-skipped.skipped c.in_ok-plan.plan c.in_ok-plan.field-0-1 class (omega arith) e.plan e.skips e.tasks r.plan r.adds r.comes).0
