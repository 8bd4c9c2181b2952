use Rattle.std.proofs.Common.{◌<◌}
use Rattle.in_open_nets.specs.Constructions.{IsIn}
use Rattle.in_open_nets.specs.Members.{nodes_in}
use Rattle.in_open_nets.proofs.PartsOf.Members.{Lists, past}
use Rattle.in_open_nets.proofs.nodes.NodeList.narrowed.Given as goal

abbrev pub invariant-loop-node : goal.invariant-loop-node
invariant-loop-node l = Lists (λ n. IsIn n (nodes_in l.fn.tests) × (n < past l.node-items l.node-index)) l.members
