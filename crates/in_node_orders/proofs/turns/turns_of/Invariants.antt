use Rattle.in_node_orders.specs.Turns.{AreTurnsBelow}
use Rattle.in_node_orders.proofs.turns.turns_of.Given as goal

abbrev pub invariant-loop-turn : goal.invariant-loop-turn
invariant-loop-turn l = AreTurnsBelow l.fn.count l.nodes l.turn l.turns
