use Rattle.in_growing_graphs.proofs.Growing.{linked}
use Rattle.in_growing_graphs.proofs.laws.blobs_are_linked.Goals as goal

pub returns : goal.returns
returns c = λ edges up via depth covered a b blobs root less. linked edges up via depth covered a b blobs root less
