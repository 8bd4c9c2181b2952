use Rattle.std.proofs.Common.{◌≡◌, drop, map}
use Rattle.in_syntax.specs.Refusals.{earliest}
use Rattle.in_symbols.specs.Searching.{untyped, untyped_in_class}
use Rattle.in_symbols.proofs.searching.untyped_in_class.Given as goal

abbrev pub invariant-loop-port : goal.invariant-loop-port
invariant-loop-port l = earliest l.found (map (untyped l.types) (drop l.port-index l.ports)) ≡ untyped_in_class l.types l.ports
