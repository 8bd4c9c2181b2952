use Rattle.in_reducer.proofs.Cuts.Reduced as proved
use Rattle.in_reducer.proofs.laws.reductions_go_on.Goals as goal

pub returns : goal.returns
returns c = proved.reductions_go_on
