use Rattle.in_open_nets.proofs.Graphs.OneGraph.{one_class_graph}
use Rattle.in_open_nets.proofs.laws.class_graphs_are_one.Goals as goal

pub returns : goal.returns
returns c = one_class_graph
