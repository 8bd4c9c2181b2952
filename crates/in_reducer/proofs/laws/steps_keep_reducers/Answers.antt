use Rattle.in_reducer.proofs.Steps.StepsOn as proved
use Rattle.in_reducer.proofs.laws.steps_keep_reducers.Goals as goal

pub returns : goal.returns
returns c = proved.steps_keep_reducers
