use Rattle.std.proofs.Common.{◌≡◌, ◌+◌, ◌∙◌, length, get_or, false, refl, sym, subst, ap, arith}
use Rattle.std.proofs.lemmas.Option.{slice_get_read}
use Rattle.in_simple.specs.Checking.{OnStep}
use Rattle.in_open_nets.proofs.Public.{not_both}
use Rattle.in_simple.proofs.VerifyRun.{AreBuilt, built_start, built_more, built_refused, built_whole, whole_built}
use Rattle.in_simple.proofs.verifying.verify.Goals as goal

pub loop-step-init : goal.loop-step-init
loop-step-init c = built_start c.args.open.now c.args.derivation.now.steps c.new-parts.result.items c.new-parts.ensures.items

pub returns-in-None : goal.returns-in-None
returns-in-None c =
    let o = c.args.open.now in
    let steps = c.args.derivation.now.steps in
    let k = c.loop-step.step-index in
    let step = c.step-item.result in
    let x = c.as_slice-step-items.ensures in
    let here = slice_get_read steps (length steps) k step refl (let a = c.loop-step-test.true in let b = ap length x in omega arith) (c.step-item.is ∙ ap (λ z. get_or z k step) x) in
    let h = subst (λ z. OnStep o step c.loop-step.parts.items c.built_by.new.parts.items z) c.in-None.is c.in_ok-built.ensures in (
      (λ e. absurd (not_both false e refl)),
      λ d. absurd (built_refused o steps k c.loop-step.parts.items c.built_by.new.parts.items step c.loop-step.invariant here h d),
    )

pub loop-step-preserved : goal.loop-step-preserved
loop-step-preserved c =
    let o = c.args.open.now in
    let steps = c.args.derivation.now.steps in
    let k = c.loop-step.step-index in
    let step = c.step-item.result in
    let x = c.as_slice-step-items.ensures in
    let here = slice_get_read steps (length steps) k step refl (let a = c.loop-step-test.true in let b = ap length x in omega arith) (c.step-item.is ∙ ap (λ z. get_or z k step) x) in
    let t = subst (λ z. OnStep o step c.loop-step.parts.items c.built_by.new.parts.items z) c.in-Some.is c.in_ok-built.ensures in
    subst (λ z. AreBuilt o steps (k + 1) z) (sym c.in_ok-push-in-Some.ensures.items) (built_more o steps k c.loop-step.parts.items c.built_by.new.parts.items step c.in-Some.built c.loop-step.invariant here t)

pub returns : goal.returns
returns c =
    let o = c.args.open.now in
    let steps = c.args.derivation.now.steps in
    let x = ap length c.as_slice-step-items.ensures in
    let a = c.loop-step-test.false in
    let b = c.loop-step.auto in
    let e : c.loop-step.step-index ≡ length steps = omega arith in
    let h = subst (λ z. AreBuilt o steps z c.loop-step.parts.items) e c.loop-step.invariant in (
      (λ t. built_whole o steps c.loop-step.parts.items (c.is_whole.ensures.net t).net h (c.is_whole.ensures.whole.0 t)),
      λ d. c.is_whole.ensures.whole.1 (whole_built o steps c.loop-step.parts.items h d),
    )
