use Rattle.std.proofs.Common.{◌≡◌, ◌<◌, ◌+◌, sym, subst}
use Rattle.in_simple_deriving.specs.Progress.{PlansNet, Progress}
use Rattle.in_open_nets.specs.OpenNets.{IsAgent}
use Rattle.in_open_nets.specs.Stuck.{ports_of, turn}
use Rattle.in_simple_deriving.proofs.Fates.{fate_of_port}
use Rattle.in_simple_deriving.proofs.Stages.{joins_port}
use Rattle.in_simple_deriving.proofs.plans.JoinedPlan.port.Goals as goal

pub invariant_of-result : goal.invariant_of-result
invariant_of-result c =
    let o = c.self.inside.wired.now in
    let n = c.self.inside.node in
    let i = c.args.port in
    let p = c.self.inside.plan in
    let r = c.in_ok-plan.plan in
    let same = sym c.self.view_is in
    let e : c.self.inside.turn ≡ turn o n i = subst (λ (s : Progress). s.next ≡ turn s.net s.node i) same c.requires.turn in
    let lt : i < ports_of o n = subst (λ (s : Progress). i < ports_of s.net s.node) same c.requires.port in
    let principal : IsAgent o n → i ≡ 0 = subst (λ (s : Progress). IsAgent s.net s.node → i ≡ 0) same c.requires.principal in
    let x = subst (λ z. PlansNet o n z p) e c.self.invariant in
    let w = c.partner-wire.result.0 in
    let q = c.partner-wire.result.1 in
    let wire = c.partner-wire.ensures.wire in
    let f = fate_of_port o n i c.self.inside.turn w q p c.fate-fate.result c.self.invariant.plan.net c.self.invariant.plan.node c.fate-fate.ensures wire (sym e) in
    let on = joins_port o n i w q p r c.fate-fate.result x lt principal wire f c.in_ok-plan.ensures in
    subst (λ z. PlansNet o n (z + 1) r) (sym e) on.0
