use Rattle.in_reducer.proofs.Cuts.Reduced as proved
use Rattle.in_reducer.proofs.laws.steps_reduce.Goals as goal

pub returns : goal.returns
returns c = proved.steps_reduce
