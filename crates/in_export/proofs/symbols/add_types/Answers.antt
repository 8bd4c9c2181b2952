use Rattle.std.proofs.Common.{◌++◌, length, ap, ◌∙◌, arith}
use Rattle.in_symbols.specs.Names.{name_in}
use Rattle.in_export.specs.Json.{name_text}
use Rattle.in_export.proofs.Arrays.{begins, goes_on, array_written}
use Rattle.in_export.proofs.symbols.add_types.Goals as goal

pub loop-kind-init : goal.loop-kind-init
loop-kind-init c = begins (λ k. name_text (name_in k c.args.symbols.now.types)) (length c.args.symbols.now.types) c.args.bytes.now.items _ c.in_ok-push.ensures.items

pub loop-kind-preserved : goal.loop-kind-preserved
loop-kind-preserved c =
    goes_on (λ k. name_text (name_in k c.args.symbols.now.types)) (length c.args.symbols.now.types) c.loop-kind.kind c.args.bytes.now.items c.loop-kind.bytes.items c.add_comma.new.bytes.items c.add_name.new.bytes.items c.loop-kind.invariant
    (omega (arith, c.loop-kind-test.true, c.types-kind-end.ensures)) c.in_ok-add_comma.ensures (c.in_ok-add_name.ensures ∙ ap (λ z. c.add_comma.new.bytes.items ++ name_text z) c.type_name.ensures)

pub returns : goal.returns
returns c =
    array_written (λ k. name_text (name_in k c.args.symbols.now.types)) (length c.args.symbols.now.types) c.loop-kind.kind c.args.bytes.now.items c.loop-kind.bytes.items _ c.loop-kind.invariant
    (omega (arith, c.loop-kind-test.false, c.loop-kind.auto.kind-end, c.types-kind-end.ensures)) c.in_ok-push-2.ensures.items
