use Rattle.in_growing_graphs.proofs.Growing.{no_edge}
use Rattle.in_growing_graphs.proofs.laws.no_edge_has_blobs.Goals as goal

pub returns : goal.returns
returns c = no_edge
