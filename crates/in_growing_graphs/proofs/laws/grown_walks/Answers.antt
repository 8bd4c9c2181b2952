use Rattle.in_growing_graphs.proofs.Walks.{grown}
use Rattle.in_growing_graphs.proofs.laws.grown_walks.Goals as goal

pub returns : goal.returns
returns c = grown
