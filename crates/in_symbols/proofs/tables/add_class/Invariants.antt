use Rattle.std.proofs.Common.{drop, take}
use Rattle.std.specs.List.{AllByRecursion}
use Rattle.in_symbols.specs.Tables.{AddsClass, Knows}
use Rattle.in_symbols.proofs.tables.add_class.Given as goal

abbrev pub invariant-loop-port : goal.invariant-loop-port
invariant-loop-port l = record {
  adds : AddsClass l.types l.number (take l.port-index l.ports) l.fn.shape l.shape;
  known : AllByRecursion (Knows l.types) (drop l.port-index l.ports);
}
