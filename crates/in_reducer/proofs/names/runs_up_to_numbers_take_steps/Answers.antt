use Rattle.in_reducer.proofs.Numbers.Before.{takes_step}
use Rattle.in_reducer.proofs.names.runs_up_to_numbers_take_steps.Goals as goal

pub returns : goal.returns
returns c = takes_step
