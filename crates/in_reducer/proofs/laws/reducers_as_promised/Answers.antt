use Rattle.in_reducer.proofs.Steps.StepsOn as proved
use Rattle.in_reducer.proofs.laws.reducers_as_promised.Goals as goal

pub returns : goal.returns
returns c = proved.reducers_as_promised
