use Rattle.std.proofs.Common.{◌≡◌, length, ap, arith}
use Rattle.in_net.specs.Parts.{symbol_in}
use Rattle.in_export.specs.Parts.{agent_text}
use Rattle.in_export.proofs.Arrays.{begins, goes_on, array_written}
use Rattle.in_export.proofs.nets.add_agents.Goals as goal

pub loop-number-init : goal.loop-number-init
loop-number-init c = begins (λ x. agent_text (symbol_in c.args.net.now x)) (length c.args.net.now.cells) c.args.bytes.now.items _ c.in_ok-push.ensures.items

pub loop-number-preserved : goal.loop-number-preserved
loop-number-preserved c =
    let many : length c.cells-number-end.result.now ≡ length c.args.net.now.cells = ap length c.cells-number-end.ensures.cells in
    goes_on (λ x. agent_text (symbol_in c.args.net.now x)) (length c.args.net.now.cells) c.loop-number.number c.args.bytes.now.items c.loop-number.bytes.items c.add_comma.new.bytes.items c.add_agent.new.bytes.items c.loop-number.invariant
    (omega (arith, c.loop-number-test.true, many)) c.in_ok-add_comma.ensures (c.in_ok-add_agent.ensures)

pub returns : goal.returns
returns c =
    let many : length c.cells-number-end.result.now ≡ length c.args.net.now.cells = ap length c.cells-number-end.ensures.cells in
    array_written (λ x. agent_text (symbol_in c.args.net.now x)) (length c.args.net.now.cells) c.loop-number.number c.args.bytes.now.items c.loop-number.bytes.items _ c.loop-number.invariant
    (omega (arith, c.loop-number-test.false, c.loop-number.auto.number-end, many)) c.in_ok-push-2.ensures.items
