use Rattle.in_reducer.proofs.Numbers.Before.{runs_on}
use Rattle.in_reducer.proofs.names.runs_up_to_numbers_go_on.Goals as goal

pub returns : goal.returns
returns c = runs_on
