use Rattle.in_open_nets.specs.ClassEdges.{HaveNumbers, AreHubEdges}
use Rattle.in_open_nets.proofs.PartsOf.Members.{past}
use Rattle.in_open_nets.proofs.class_graphs.ClassGraph.list_hubs.Given as goal

abbrev pub invariant-loop-member : goal.invariant-loop-member
invariant-loop-member l = record {
  numbers : HaveNumbers l.part.wired.now l.part.nodes.now (past l.member-items l.member-index) l.self.hubs l.self.count;
  edges : AreHubEdges l.part.wired.now l.part.nodes.now (past l.member-items l.member-index) l.self.hubs l.self.edges;
}
