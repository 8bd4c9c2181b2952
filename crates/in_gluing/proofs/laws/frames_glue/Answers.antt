use Rattle.in_gluing.proofs.Frame.{frames_glue}
use Rattle.in_gluing.proofs.laws.frames_glue.Goals as goal

pub returns : goal.returns
returns c = frames_glue
