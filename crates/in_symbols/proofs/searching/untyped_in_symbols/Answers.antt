use Rattle.std.proofs.Common.{ap, ◌∙◌}
use Rattle.in_syntax.specs.Refusals.{earlier}
use Rattle.in_symbols.specs.Searching.{untyped_in_symbol}
use Rattle.in_symbols.proofs.Searches.{one_more, all_done}
use Rattle.in_symbols.proofs.searching.untyped_in_symbols.Goals as goal

pub loop-symbol-preserved : goal.loop-symbol-preserved
loop-symbol-preserved c =
    one_more (untyped_in_symbol c.args.types.now) c.args.symbols.now c.loop-symbol.symbol-index c.symbol-item.result c.loop-symbol.found c.earlier-found.result _ c.loop-symbol-test.true c.symbol-item.is (c.earlier-found.ensures ∙ ap (earlier c.loop-symbol.found) c.untyped_in_symbol.ensures) c.loop-symbol.invariant

pub returns : goal.returns
returns c = all_done (untyped_in_symbol c.args.types.now) c.args.symbols.now c.loop-symbol.symbol-index c.loop-symbol.found _ c.loop-symbol-test.false c.loop-symbol.invariant
