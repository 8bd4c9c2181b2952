use Rattle.std.proofs.Common.{◌++◌, length, ap, ◌∙◌, arith}
use Rattle.in_open_nets.specs.OpenNets.{node_in}
use Rattle.in_export.specs.Parts.{node_text}
use Rattle.in_export.proofs.Arrays.{begins, goes_on, array_written}
use Rattle.in_export.proofs.steps.add_nodes.Goals as goal

pub loop-number-init : goal.loop-number-init
loop-number-init c = begins (λ k. node_text (node_in c.args.shape.now k)) (length c.args.shape.now.nodes) c.args.bytes.now.items _ c.in_ok-push.ensures.items

pub loop-number-preserved : goal.loop-number-preserved
loop-number-preserved c =
    goes_on (λ k. node_text (node_in c.args.shape.now k)) (length c.args.shape.now.nodes) c.loop-number.number c.args.bytes.now.items c.loop-number.bytes.items c.add_comma.new.bytes.items c.add_node.new.bytes.items c.loop-number.invariant
    (omega (arith, c.loop-number-test.true, c.nodes-number-end.ensures)) c.in_ok-add_comma.ensures (c.in_ok-add_node.ensures ∙ ap (λ z. c.add_comma.new.bytes.items ++ node_text z) c.node.ensures)

pub returns : goal.returns
returns c =
    array_written (λ k. node_text (node_in c.args.shape.now k)) (length c.args.shape.now.nodes) c.loop-number.number c.args.bytes.now.items c.loop-number.bytes.items _ c.loop-number.invariant
    (omega (arith, c.loop-number-test.false, c.loop-number.auto.number-end, c.nodes-number-end.ensures)) c.in_ok-push-2.ensures.items
