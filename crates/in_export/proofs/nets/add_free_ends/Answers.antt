use Rattle.std.proofs.Common.{length, arith}
use Rattle.in_export.specs.Parts.{free_end_text}
use Rattle.in_export.proofs.Arrays.{begins, goes_on, array_written}
use Rattle.in_export.proofs.nets.add_free_ends.Goals as goal

pub loop-number-init : goal.loop-number-init
loop-number-init c = begins (free_end_text c.args.net.now) (length c.args.net.now.free) c.args.bytes.now.items _ c.in_ok-push.ensures.items

pub loop-number-preserved : goal.loop-number-preserved
loop-number-preserved c =
    goes_on (free_end_text c.args.net.now) (length c.args.net.now.free) c.loop-number.number c.args.bytes.now.items c.loop-number.bytes.items c.add_comma.new.bytes.items c.add_free_end.new.bytes.items c.loop-number.invariant
    (omega (arith, c.loop-number-test.true, c.free_ends-number-end.ensures)) c.in_ok-add_comma.ensures (c.in_ok-add_free_end.ensures)

pub returns : goal.returns
returns c =
    array_written (free_end_text c.args.net.now) (length c.args.net.now.free) c.loop-number.number c.args.bytes.now.items c.loop-number.bytes.items _ c.loop-number.invariant
    (omega (arith, c.loop-number-test.false, c.loop-number.auto.number-end, c.free_ends-number-end.ensures)) c.in_ok-push-2.ensures.items
