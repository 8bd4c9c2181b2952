use Rattle.std.proofs.Common.{◌++◌, length, ap, ◌∙◌, arith, slice_get, sym, refl}
use Rattle.std.proofs.lemmas.Option.{slice_get_read}
use Rattle.in_export.specs.Parts.{step_text, steps_text}
use Rattle.in_export.proofs.Arrays.{begins, goes_on, array_written}
use Rattle.in_export.proofs.steps.add_steps.Goals as goal

pub loop-number-init : goal.loop-number-init
loop-number-init c = begins (λ k. step_text (slice_get c.as_slice-steps.result.now k)) (length c.as_slice-steps.result.now) c.args.bytes.now.items _ c.in_ok-push.ensures.items

pub loop-number-preserved : goal.loop-number-preserved
loop-number-preserved c =
    goes_on (λ k. step_text (slice_get c.as_slice-steps.result.now k)) (length c.as_slice-steps.result.now) c.loop-number.number c.args.bytes.now.items c.loop-number.bytes.items c.add_comma.new.bytes.items c.add_step.new.bytes.items c.loop-number.invariant
    (omega (arith, c.loop-number-test.true)) c.in_ok-add_comma.ensures (c.in_ok-add_step.ensures ∙ ap (λ z. c.add_comma.new.bytes.items ++ step_text z) (sym (slice_get_read c.as_slice-steps.result.now _ c.loop-number.number c.index-steps-number.result refl c.loop-number-test.true c.index-steps-number.is)))

pub returns : goal.returns
returns c =
    array_written (λ k. step_text (slice_get c.as_slice-steps.result.now k)) (length c.as_slice-steps.result.now) c.loop-number.number c.args.bytes.now.items c.loop-number.bytes.items _ c.loop-number.invariant
    (omega (arith, c.loop-number-test.false, c.loop-number.auto.number-end)) c.in_ok-push-2.ensures.items
    ∙ ap (λ z. c.args.bytes.now.items ++ steps_text z) c.as_slice-steps.ensures
