use Rattle.std.proofs.Common.{length, arith, slice_get}
use Rattle.in_export.specs.Programs.{rule_text}
use Rattle.in_export.proofs.Arrays.{begins, goes_on, array_written}
use Rattle.in_export.proofs.programs.add_rules.Goals as goal

pub loop-number-init : goal.loop-number-init
loop-number-init c = begins (λ k. rule_text c.args.checked.now k (slice_get c.args.checked.now.program.rules k)) (length c.args.checked.now.program.rules) c.args.bytes.now.items _ c.in_ok-push.ensures.items

pub loop-number-preserved : goal.loop-number-preserved
loop-number-preserved c =
    goes_on (λ k. rule_text c.args.checked.now k (slice_get c.args.checked.now.program.rules k)) (length c.args.checked.now.program.rules) c.loop-number.number c.args.bytes.now.items c.loop-number.bytes.items c.add_comma.new.bytes.items c.add_rule.new.bytes.items c.loop-number.invariant
    (omega (arith, c.loop-number-test.true, c.rules-number-end.ensures)) c.in_ok-add_comma.ensures (c.in_ok-add_rule.ensures)

pub returns : goal.returns
returns c =
    array_written (λ k. rule_text c.args.checked.now k (slice_get c.args.checked.now.program.rules k)) (length c.args.checked.now.program.rules) c.loop-number.number c.args.bytes.now.items c.loop-number.bytes.items _ c.loop-number.invariant
    (omega (arith, c.loop-number-test.false, c.loop-number.auto.number-end, c.rules-number-end.ensures)) c.in_ok-push-2.ensures.items
