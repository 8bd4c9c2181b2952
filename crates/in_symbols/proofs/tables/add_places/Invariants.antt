use Rattle.std.proofs.Common.{◌≡◌, ◌++◌, ◌∷◌, ◌+◌, drop, map}
use Rattle.std.specs.List.{AllByRecursion, flat_map}
use Rattle.in_symbols.specs.Tables.{Knows, port_of, classes_from}
use Rattle.in_symbols.proofs.tables.add_places.Given as goal

abbrev pub invariant-loop-class : goal.invariant-loop-class
invariant-loop-class l = record {
  place : l.shape.place ≡ l.symbol.name.place;
  ports : l.shape.ports ++ map (port_of l.types) (flat_map (λ c. c) (drop l.class-index l.symbol.classes)) ≡ port_of l.types l.symbol.port ∷ map (port_of l.types) (flat_map (λ c. c) l.symbol.classes);
  classes : l.shape.classes ++ classes_from (l.class-index + 1) (drop l.class-index l.symbol.classes) ≡ 0 ∷ classes_from 1 l.symbol.classes;
  count : l.shape.class_count ≡ l.class-index;
  known : AllByRecursion (AllByRecursion (Knows l.types)) (drop l.class-index l.symbol.classes);
}
