use Rattle.std.proofs.Common.{arith, ◌+◌}
use Rattle.in_symbols.specs.Tables.{arity_of}
use Rattle.in_export.specs.Parts.{port_text}
use Rattle.in_export.proofs.Arrays.{begins, goes_on, array_written}
use Rattle.in_export.proofs.symbols.add_ports.Goals as goal

pub loop-place-init : goal.loop-place-init
loop-place-init c = begins (port_text c.args.symbols.now c.args.symbol.0) (arity_of c.args.symbols.now c.args.symbol.0 + 1) c.args.bytes.now.items _ c.in_ok-push.ensures.items

pub loop-place-preserved : goal.loop-place-preserved
loop-place-preserved c =
    goes_on (port_text c.args.symbols.now c.args.symbol.0) (arity_of c.args.symbols.now c.args.symbol.0 + 1) c.loop-place.place c.args.bytes.now.items c.loop-place.bytes.items c.add_comma.new.bytes.items c.add_port.new.bytes.items c.loop-place.invariant
    (omega (arith, c.loop-place-test.true, c.arity-last.ensures.arity)) c.in_ok-add_comma.ensures (c.in_ok-add_port.ensures)

pub returns : goal.returns
returns c =
    array_written (port_text c.args.symbols.now c.args.symbol.0) (arity_of c.args.symbols.now c.args.symbol.0 + 1) c.loop-place.place c.args.bytes.now.items c.loop-place.bytes.items _ c.loop-place.invariant
    (omega (arith, c.loop-place-test.false, c.loop-place.auto.place-end, c.arity-last.ensures.arity)) c.in_ok-push-2.ensures.items
