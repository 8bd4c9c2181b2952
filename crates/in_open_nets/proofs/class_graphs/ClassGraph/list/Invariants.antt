use Rattle.std.proofs.Common.{length}
use Rattle.in_open_nets.specs.ClassEdges.{AreEdges, HaveNumbers}
use Rattle.in_open_nets.proofs.PartsOf.Members.{past}
use Rattle.in_open_nets.proofs.class_graphs.ClassGraph.list.Given as goal

abbrev pub invariant-loop-member : goal.invariant-loop-member
invariant-loop-member l = record {
  numbers : HaveNumbers l.part.wired.now l.part.nodes.now (length l.part.wired.now.nodes) l.self.hubs l.self.count;
  edges : AreEdges l.part.wired.now l.part.nodes.now (past l.member-items l.member-index) 0 l.self.hubs l.self.edges;
}
