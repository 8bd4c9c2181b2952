use Rattle.std.proofs.Common.{length, arith}
use Rattle.in_export.specs.Parts.{symbol_text}
use Rattle.in_export.proofs.Arrays.{begins, goes_on, array_written}
use Rattle.in_export.proofs.symbols.add_symbols.Goals as goal

pub loop-number-init : goal.loop-number-init
loop-number-init c = begins (symbol_text c.args.symbols.now) (length c.args.symbols.now.names) c.args.bytes.now.items _ c.in_ok-push.ensures.items

pub loop-number-preserved : goal.loop-number-preserved
loop-number-preserved c =
    goes_on (symbol_text c.args.symbols.now) (length c.args.symbols.now.names) c.loop-number.number c.args.bytes.now.items c.loop-number.bytes.items c.add_comma.new.bytes.items c.add_symbol.new.bytes.items c.loop-number.invariant
    (omega (arith, c.loop-number-test.true, c.symbols-number-end.ensures)) c.in_ok-add_comma.ensures (c.in_ok-add_symbol.ensures)

pub returns : goal.returns
returns c =
    array_written (symbol_text c.args.symbols.now) (length c.args.symbols.now.names) c.loop-number.number c.args.bytes.now.items c.loop-number.bytes.items _ c.loop-number.invariant
    (omega (arith, c.loop-number-test.false, c.loop-number.auto.number-end, c.symbols-number-end.ensures)) c.in_ok-push-2.ensures.items
