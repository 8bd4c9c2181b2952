use Rattle.in_simple_bridges.specs.Spans.{AreWithin}
use Rattle.in_tests.proofs.of_in_simple_bridges.cycles.Given as goal

abbrev pub invariant-loop-one : goal.invariant-loop-one
invariant-loop-one l = AreWithin l.count l.within
