use Rattle.std.proofs.Common.{◌++◌, length, ap, ◌∙◌, arith}
use Rattle.in_net.specs.Parts.{wire_in}
use Rattle.in_export.specs.Parts.{wire_text}
use Rattle.in_export.proofs.Arrays.{begins, goes_on, array_written}
use Rattle.in_export.proofs.nets.add_wires.Goals as goal

pub loop-number-init : goal.loop-number-init
loop-number-init c = begins (λ w. wire_text (wire_in c.args.net.now w)) (length c.args.net.now.wires) c.args.bytes.now.items _ c.in_ok-push.ensures.items

pub loop-number-preserved : goal.loop-number-preserved
loop-number-preserved c =
    goes_on (λ w. wire_text (wire_in c.args.net.now w)) (length c.args.net.now.wires) c.loop-number.number c.args.bytes.now.items c.loop-number.bytes.items c.add_comma.new.bytes.items c.add_wire.new.bytes.items c.loop-number.invariant
    (omega (arith, c.loop-number-test.true, c.wires-number-end.ensures)) c.in_ok-add_comma.ensures (c.in_ok-add_wire.ensures ∙ ap (λ z. c.add_comma.new.bytes.items ++ wire_text z) c.wire.ensures.wire)

pub returns : goal.returns
returns c =
    array_written (λ w. wire_text (wire_in c.args.net.now w)) (length c.args.net.now.wires) c.loop-number.number c.args.bytes.now.items c.loop-number.bytes.items _ c.loop-number.invariant
    (omega (arith, c.loop-number-test.false, c.loop-number.auto.number-end, c.wires-number-end.ensures)) c.in_ok-push-2.ensures.items
