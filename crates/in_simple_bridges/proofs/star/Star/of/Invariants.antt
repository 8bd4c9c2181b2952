use Rattle.in_simple_bridges.specs.Stars.{AreChains}
use Rattle.in_simple_bridges.proofs.star.Star.of.Given as goal

abbrev pub invariant-loop-edge : goal.invariant-loop-edge
invariant-loop-edge l = AreChains l.fn.count l.edges l.edge l.star.heads l.star.links
