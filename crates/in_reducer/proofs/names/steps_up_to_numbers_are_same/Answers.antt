use Rattle.in_reducer.proofs.Numbers.Before.{one_step}
use Rattle.in_reducer.proofs.names.steps_up_to_numbers_are_same.Goals as goal

pub returns : goal.returns
returns c = one_step
