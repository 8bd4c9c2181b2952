use Rattle.std.proofs.Common.{◌≡◌, drop, map}
use Rattle.in_syntax.specs.Refusals.{earliest}
use Rattle.in_symbols.specs.Searching.{untyped_in_class, untyped_in_symbol}
use Rattle.in_symbols.proofs.searching.untyped_in_symbol.Given as goal

abbrev pub invariant-loop-class : goal.invariant-loop-class
invariant-loop-class l = earliest l.found (map (untyped_in_class l.types) (drop l.class-index l.symbol.classes)) ≡ untyped_in_symbol l.types l.symbol
