use Rattle.in_reducer.proofs.Numbers.Before.{same_run}
use Rattle.in_reducer.proofs.names.runs_keep_same.Goals as goal

pub returns : goal.returns
returns c = same_run
