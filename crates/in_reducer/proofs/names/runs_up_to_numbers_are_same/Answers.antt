use Rattle.in_reducer.proofs.Numbers.Before.{one_run}
use Rattle.in_reducer.proofs.names.runs_up_to_numbers_are_same.Goals as goal

pub returns : goal.returns
returns c = one_run
