use Rattle.in_growing_graphs.proofs.Growing.{stay}
use Rattle.in_growing_graphs.proofs.laws.blobs_stay.Goals as goal

pub returns : goal.returns
returns c = λ edges up via depth covered a b blobs one. stay edges up via depth covered a b blobs one
