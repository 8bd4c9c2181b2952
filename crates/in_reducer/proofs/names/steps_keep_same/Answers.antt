use Rattle.in_reducer.proofs.Numbers.SameStep.{same_step}
use Rattle.in_reducer.proofs.names.steps_keep_same.Goals as goal

pub returns : goal.returns
returns c = λ m n o u i reducer other same s z. same_step same.0 m n o u i reducer other same.1 s z
