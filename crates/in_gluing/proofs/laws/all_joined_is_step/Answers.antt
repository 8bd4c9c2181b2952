use Rattle.in_gluing.proofs.EndByEnd.{all_joined_is_step}
use Rattle.in_gluing.proofs.laws.all_joined_is_step.Goals as goal

pub returns : goal.returns
returns c = all_joined_is_step
