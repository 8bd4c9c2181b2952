use Rattle.in_check.specs.Runs.{then_step}
use Rattle.in_check.proofs.laws.steps_reach.Goals as goal

pub returns : goal.returns
returns c = λ p k n x name after reached act. then_step k n x name after reached act
