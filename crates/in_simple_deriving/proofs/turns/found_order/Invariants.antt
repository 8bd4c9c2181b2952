use Rattle.std.proofs.Common.{◌≡◌, length}
use Rattle.in_open_nets.specs.Constructions.{count}
use Rattle.in_open_nets.specs.Members.{nodes_in}
use Rattle.in_simple_deriving.proofs.Ordered.{LeadsOn}
use Rattle.in_simple_deriving.proofs.turns.found_order.Given as goal

abbrev pub invariant-loop-order : goal.invariant-loop-order
invariant-loop-order l = record {
  size : length l.left ≡ length l.wired.nodes;
  leads : LeadsOn l.wired l.order (nodes_in l.left);
}

abbrev pub decreases-loop-order : goal.decreases-loop-order
decreases-loop-order l = count (nodes_in l.left) (length l.wired.nodes)
