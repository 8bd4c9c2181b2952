use Rattle.in_simple_deriving.proofs.Numbered.{HasOthers}
use Rattle.in_simple_deriving.proofs.turns.with_others.Given as goal

abbrev pub invariant-loop-node : goal.invariant-loop-node
invariant-loop-node l = HasOthers l.initial.nodes l.turns l.node l.nodes
