use Rattle.in_simple_bridges.proofs.Forests.{other_edges}
use Rattle.in_simple_bridges.proofs.laws.other_edges.Goals as goal

pub returns : goal.returns
returns c = other_edges
