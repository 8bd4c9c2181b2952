use Rattle.in_simple_deriving.specs.Heads.{AreAlone}
use Rattle.in_simple_deriving.proofs.heads.alone.Given as goal

abbrev pub invariant-loop-node : goal.invariant-loop-node
invariant-loop-node l = AreAlone l.node l.up
