use Rattle.std.proofs.Common.{◌≡◌, ◌+◌, ◌-◌, sym, subst}
use Rattle.in_simple_deriving.specs.Planned.{Skips, WithEmpties}
use Rattle.in_simple_deriving.specs.Progress.{Progress}
use Rattle.in_open_nets.specs.Stuck.{ports_of}
use Rattle.in_simple_deriving.proofs.Stages.{grafts}
use Rattle.in_simple_deriving.proofs.plans.Classes.graft.Goals as goal

pub invariant_of-result : goal.invariant_of-result
invariant_of-result c =
    let o = c.self.inside.wired.now in
    let n = c.self.inside.node in
    let i = c.self.inside.port in
    let p = c.self.inside.plan in
    let q = c.in_ok-filled.filled in
    let e = c.in_ok-filled.ensures in
    let at : i ≡ 1 + (ports_of o n - 1) = subst (λ (s : Progress). s.next ≡ 1 + (ports_of s.net s.node - 1)) (sym c.self.view_is) c.requires in
    let many = c.saturating_sub.ensures in
    (grafts o n i c.self.inside.begun p q c.in_ok-plan.plan c.classes-classes.result c.self.invariant at c.classes-classes.ensures e.plan (subst (λ z. Skips z p q) many e.skips) (subst (λ z. WithEmpties z p q) many e.tasks) c.in_ok-plan.ensures).0
