use Rattle.std.proofs.Common.{length}
use Rattle.in_open_nets.specs.ClassEdges.{AreEdges, HaveNumbers}
use Rattle.in_open_nets.proofs.class_graphs.ClassGraph.add_edges.Given as goal

abbrev pub invariant-loop-port : goal.invariant-loop-port
invariant-loop-port l = record {
  numbers : HaveNumbers l.part.wired.now l.part.nodes.now (length l.part.wired.now.nodes) l.self.hubs l.self.count;
  edges : AreEdges l.part.wired.now l.part.nodes.now l.node l.port l.self.hubs l.self.edges;
}
