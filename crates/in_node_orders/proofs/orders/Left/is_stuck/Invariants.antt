use Rattle.std.proofs.Common.{◌<◌, ℕ}
use Rattle.in_open_nets.specs.Constructions.{IsIn}
use Rattle.in_open_nets.specs.OpenNets.{open_graph}
use Rattle.in_open_nets.specs.Splitting.{SplitsAt}
use Rattle.in_node_orders.specs.Left.{left_nodes}
use Rattle.in_node_orders.proofs.orders.Left.is_stuck.Given as goal

abbrev pub invariant-loop-node : goal.invariant-loop-node
invariant-loop-node l = (n : ℕ) → n < l.node → IsIn n (left_nodes l.wired l.self) → SplitsAt (open_graph l.wired) n (left_nodes l.wired l.self) → ⊥
