use Rattle.in_reusing.proofs.InPlace.{reuse_is_a_step}
use Rattle.in_reusing.proofs.laws.reuse_is_a_step.Goals as goal

pub returns : goal.returns
returns c = reuse_is_a_step
