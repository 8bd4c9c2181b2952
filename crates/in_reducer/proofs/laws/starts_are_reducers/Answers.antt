use Rattle.in_reducer.proofs.Starts.Started as proved
use Rattle.in_reducer.proofs.laws.starts_are_reducers.Goals as goal

pub returns : goal.returns
returns c = proved.starts_are_reducers
