use Rattle.in_gluing.proofs.Frame.{frames_step}
use Rattle.in_gluing.proofs.laws.frames_step.Goals as goal

pub returns : goal.returns
returns c = frames_step
