use Rattle.in_open_nets.specs.ClassEdges.{AddsHubEdges}
use Rattle.in_open_nets.proofs.class_graphs.add_hub_edges.Given as goal

abbrev pub invariant-loop-class : goal.invariant-loop-class
invariant-loop-class l = AddsHubEdges l.hub l.class l.fn.edges l.edges
