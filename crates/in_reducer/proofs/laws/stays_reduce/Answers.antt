use Rattle.in_reducer.proofs.Cuts.Reduced as proved
use Rattle.in_reducer.proofs.laws.stays_reduce.Goals as goal

pub returns : goal.returns
returns c = proved.stays_reduce
