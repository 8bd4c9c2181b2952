use Rattle.std.proofs.Common.{◌<◌, ℕ}
use Rattle.in_open_nets.specs.Constructions.{IsIn}
use Rattle.in_open_nets.specs.Members.{nodes_in}
use Rattle.in_open_nets.proofs.PartsOf.Members.{past}
use Rattle.in_open_nets.proofs.nodes.NodeList.is_set.Given as goal

abbrev pub invariant-loop-node : goal.invariant-loop-node
invariant-loop-node l = (m : ℕ) → m < past l.node-items l.node-index → IsIn m (nodes_in l.self) → IsIn m (nodes_in l.tests)
