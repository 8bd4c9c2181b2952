use Rattle.std.proofs.Common.{◌≡◌, drop, map}
use Rattle.in_syntax.specs.Refusals.{earliest}
use Rattle.in_symbols.specs.Searching.{untyped_in_symbol, untyped_in_symbols}
use Rattle.in_symbols.proofs.searching.untyped_in_symbols.Given as goal

abbrev pub invariant-loop-symbol : goal.invariant-loop-symbol
invariant-loop-symbol l = earliest l.found (map (untyped_in_symbol l.types) (drop l.symbol-index l.symbols)) ≡ untyped_in_symbols l.types l.symbols
