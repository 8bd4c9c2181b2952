use Rattle.in_reducer.proofs.Cuts.Reduced as proved
use Rattle.in_reducer.proofs.laws.parts_reduce_the_whole.Goals as goal

pub returns : goal.returns
returns c = proved.parts_reduce_the_whole
