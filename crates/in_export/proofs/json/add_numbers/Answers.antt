use Rattle.std.proofs.Common.{length, arith, decimal, slice_index_or}
use Rattle.in_export.proofs.Arrays.{begins, goes_on, array_written}
use Rattle.in_export.proofs.json.add_numbers.Goals as goal

pub loop-index-init : goal.loop-index-init
loop-index-init c = begins (λ k. decimal (slice_index_or c.args.numbers.now k 0)) (length c.args.numbers.now) c.args.bytes.now.items _ c.in_ok-push.ensures.items

pub loop-index-preserved : goal.loop-index-preserved
loop-index-preserved c =
    goes_on (λ k. decimal (slice_index_or c.args.numbers.now k 0)) (length c.args.numbers.now) c.loop-index.index c.args.bytes.now.items c.loop-index.bytes.items c.add_comma.new.bytes.items c.add_number.new.bytes.items c.loop-index.invariant
    (omega (arith, c.loop-index-test.true)) c.in_ok-add_comma.ensures (c.in_ok-add_number.ensures)

pub returns : goal.returns
returns c =
    array_written (λ k. decimal (slice_index_or c.args.numbers.now k 0)) (length c.args.numbers.now) c.loop-index.index c.args.bytes.now.items c.loop-index.bytes.items _ c.loop-index.invariant
    (omega (arith, c.loop-index-test.false, c.loop-index.auto.index-end)) c.in_ok-push-2.ensures.items
