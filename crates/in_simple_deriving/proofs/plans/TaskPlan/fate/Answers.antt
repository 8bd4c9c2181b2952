use Rattle.std.proofs.Common.{◌<◌, refl, subst, sym}
use Rattle.in_simple_deriving.specs.Planned.{HasFateOfTurn}
use Rattle.in_simple_deriving.specs.Procedure.{IsPlanAtTurn}
use Rattle.in_simple_deriving.specs.TaskStates.{TaskState, state_of}
use Rattle.in_simple_deriving.specs.declared.plans.Fate.TheVariants.{Waits, Derived, Outside}
use Rattle.in_simple_deriving.proofs.Fated.{fate_again, fate_gone, fate_head}
use Rattle.in_simple_deriving.proofs.plans.TaskPlan.fate.Goals as goal

pub returns-in-Head : goal.returns-in-Head
returns-in-Head c =
    let x = c.self.inside.heads.now in
    let n = c.self.inside.node in
    let k = c.args.turn in
    let p = state_of x n c.self.inside.tasks in
    let e = c.self.view_is in
    let plan = subst (λ (z : TaskState). IsPlanAtTurn z.net z.node k z) (sym e) c.requires.plan in
    let less = subst (λ (z : TaskState). k < z.turns) (sym e) c.requires.turn in
    let r = fate_head x c.met.ensures.turns n c.self.invariant.0 k less p refl refl refl plan c.in-Head.head c.in-Head.ensures.met in
    subst (λ z. HasFateOfTurn z k (Waits c.of.result)) e (subst (λ z. HasFateOfTurn p k (Waits z)) (sym c.of.ensures) r)

pub returns-in-Again : goal.returns-in-Again
returns-in-Again c =
    let x = c.self.inside.heads.now in
    let n = c.self.inside.node in
    let k = c.args.turn in
    let p = state_of x n c.self.inside.tasks in
    let e = c.self.view_is in
    let plan = subst (λ (z : TaskState). IsPlanAtTurn z.net z.node k z) (sym e) c.requires.plan in
    let less = subst (λ (z : TaskState). k < z.turns) (sym e) c.requires.turn in
    let r = fate_again x c.met.ensures.turns n c.self.invariant.0 k less p refl refl refl plan c.in-Again.ensures.met in
    subst (λ z. HasFateOfTurn z k Derived) e r

pub returns-in-Gone : goal.returns-in-Gone
returns-in-Gone c =
    let x = c.self.inside.heads.now in
    let n = c.self.inside.node in
    let k = c.args.turn in
    let p = state_of x n c.self.inside.tasks in
    let e = c.self.view_is in
    let plan = subst (λ (z : TaskState). IsPlanAtTurn z.net z.node k z) (sym e) c.requires.plan in
    let less = subst (λ (z : TaskState). k < z.turns) (sym e) c.requires.turn in
    let r = fate_gone x c.met.ensures.turns n c.self.invariant.0 k less p refl refl refl plan c.in-Gone.ensures.met in
    subst (λ z. HasFateOfTurn z k Outside) e r
