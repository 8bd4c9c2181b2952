use Rattle.std.proofs.Common.{◌≡◌, ◌++◌, drop, map}
use Rattle.std.specs.List.{AllByRecursion}
use Rattle.in_syntax.specs.Sizes.{IsSizedSymbol}
use Rattle.in_symbols.specs.Tables.{KnowsAll, shape_of}
use Rattle.in_symbols.proofs.tables.shapes.Given as goal

abbrev pub invariant-loop-symbol : goal.invariant-loop-symbol
invariant-loop-symbol l = record {
  shapes : l.all ++ map (shape_of l.types) (drop l.symbol-index l.symbol-items) ≡ map (shape_of l.types) l.source.symbols;
  sized : AllByRecursion IsSizedSymbol (drop l.symbol-index l.symbol-items);
  known : AllByRecursion (KnowsAll l.types) (drop l.symbol-index l.symbol-items);
}
