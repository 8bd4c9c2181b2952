use Rattle.std.proofs.Common.{◌≡◌, ◌+◌, sym, ◌∙◌, ap, subst, arith}
use Rattle.in_open_nets.specs.OpenNets.{IsClass}
use Rattle.in_simple_deriving.specs.Progress.{PlansNet, Progress, progress, until}
use Rattle.in_open_nets.specs.Stuck.{ports_of}
use Rattle.in_simple_deriving.proofs.Stages.{gives, past_ports}
use Rattle.in_simple_deriving.proofs.plans.BegunPlan.class.Goals as goal

pub invariant_of-joined : goal.invariant_of-joined
invariant_of-joined c =
    let class = subst (λ (s : Progress). IsClass s.net s.node) (sym c.self.view_is) c.requires in
    (gives c.self.inside.wired.now c.self.inside.node c.self.inside.plan c.in_ok-plan.plan c.self.invariant class c.in_ok-plan.ensures).0

pub invariant_of-joined-2 : goal.invariant_of-joined-2
invariant_of-joined-2 c =
    let j = c.joined.inside in
    let o = j.wired.now in
    let n = j.node in
    let e : progress o n j.plan.rest j.turn ≡ until c.args.self c.loop-port.port = c.joined.view_is ∙ c.loop-port.invariant in
    let class = subst (λ (s : Progress). IsClass s.net s.node) (sym e) c.requires in
    let turn = ap (λ (s : Progress). s.next) e in
    let here = ap (λ (s : Progress). ports_of s.net s.node) e in
    let there = ap (λ (s : Progress). ports_of s.net s.node) c.self.view_is in
    let count = c.ports-ports.ensures.ports in
    let stop = c.loop-port-test.false in
    let bound = c.loop-port.auto in
    let at : j.turn ≡ ports_of o n = omega arith in
    let all : ports_of o n ≡ c.ports-ports.result = omega arith in
    subst (λ z. PlansNet o n (z + 1) j.plan) all (past_ports o n j.plan (subst (λ z. PlansNet o n z j.plan) at c.joined.invariant) class)
