use Rattle.in_simple_bridges.proofs.Forests.{tree_edges}
use Rattle.in_simple_bridges.proofs.laws.tree_edges.Goals as goal

pub returns : goal.returns
returns c = tree_edges
