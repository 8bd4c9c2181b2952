use Rattle.in_simple_deriving.specs.Heads.{IsUp}
use Rattle.in_simple_deriving.specs.Turns.{is_joined_from}
use Rattle.in_simple_deriving.proofs.Listing.{ListsBelow}
use Rattle.in_simple_deriving.proofs.heads.PutBack.component.Given as goal

abbrev pub invariant-loop-node : goal.invariant-loop-node
invariant-loop-node l = record {
  up : IsUp l.order l.turn l.up;
  lists : ListsBelow (is_joined_from l.order l.turn l.head) l.node l.nodes;
}
