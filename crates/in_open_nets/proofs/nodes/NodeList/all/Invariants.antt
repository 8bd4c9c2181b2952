use Rattle.std.proofs.Common.{◌<◌}
use Rattle.in_open_nets.proofs.PartsOf.Members.{Lists}
use Rattle.in_open_nets.proofs.nodes.NodeList.all.Given as goal

abbrev pub invariant-loop-node : goal.invariant-loop-node
invariant-loop-node l = Lists (λ n. n < l.node) l.members
