use Rattle.in_growing_graphs.proofs.Bridges.{decide}
use Rattle.in_growing_graphs.proofs.laws.blobs_decide_cycles.Goals as goal

pub returns : goal.returns
returns c = decide
