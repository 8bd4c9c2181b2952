use Rattle.in_growing_graphs.proofs.Growing.{merged}
use Rattle.in_growing_graphs.proofs.laws.blobs_are_merged.Goals as goal

pub returns : goal.returns
returns c = λ edges up via depth old new a b blobs ways. merged edges up via depth old a b blobs new ways
