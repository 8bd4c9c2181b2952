use Rattle.in_reducer.proofs.Numbers.Before.{step_before}
use Rattle.in_reducer.proofs.names.steps_can_be_renamed.Goals as goal

pub returns : goal.returns
returns c = λ m n o i reducer s same. step_before m n o i reducer s same.0 same.1
