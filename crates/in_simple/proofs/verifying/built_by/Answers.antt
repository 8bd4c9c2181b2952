use Rattle.std.proofs.Common.{Some, cond, refl, sym, subst, ap}
use Rattle.in_open_nets.specs.declared.derivations.Step.TheVariants.{Empty, Link, Given}
use Rattle.in_simple.specs.Checking.{OnStep}
use Rattle.std.specs.Prelude.{IfOk}
use Rattle.in_open_nets.proofs.Public.{if_ok}
use Rattle.in_simple.proofs.VerifyMade.{made_empty}
use Rattle.in_simple.proofs.VerifyRun.{step_alone}
use Rattle.in_simple.proofs.verifying.built_by.Goals as goal

pub returns-in_ok-nothing-in-Empty : goal.returns-in_ok-nothing-in-Empty
returns-in_ok-nothing-in-Empty c =
    let o = c.args.open.now in
    let parts = c.args.parts.now.items in
    let b = c.in_ok-nothing-in-Empty.field-0 in
    let h = c.in_ok-nothing-in-Empty.ensures in
    subst (λ z. OnStep o z parts parts (Some b)) (sym c.in-Empty.is) (step_alone o Empty parts (Some b) refl (h.sized, made_empty o b h, (λ n. ap (λ z. cond z 1 0) (h.nodes n))))

pub returns-in-Link : goal.returns-in-Link
returns-in-Link c =
    let o = c.args.open.now in
    let parts = c.args.parts.now.items in
    subst (λ z. IfOk c.link.result (OnStep o z parts parts)) (sym c.in-Link.is) (if_ok c.link.result (λ r h. step_alone o (Link c.in-Link.wire) parts r refl h) c.link.ensures)

pub returns-in-Given : goal.returns-in-Given
returns-in-Given c =
    let o = c.args.open.now in
    let parts = c.args.parts.now.items in
    subst (λ z. IfOk c.given.result (OnStep o z parts parts)) (sym c.in-Given.is) (if_ok c.given.result (λ r h. step_alone o (Given c.in-Given.node) parts r refl h) c.given.ensures)
