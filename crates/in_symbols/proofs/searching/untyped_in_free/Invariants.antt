use Rattle.std.proofs.Common.{◌≡◌, drop, map}
use Rattle.in_syntax.specs.Refusals.{earliest}
use Rattle.in_symbols.specs.Searching.{untyped, untyped_in_free}
use Rattle.in_symbols.proofs.searching.untyped_in_free.Given as goal

abbrev pub invariant-loop-free : goal.invariant-loop-free
invariant-loop-free l = earliest l.found (map (λ f. untyped l.types f.port) (drop l.free-index l.frees)) ≡ untyped_in_free l.types l.frees
