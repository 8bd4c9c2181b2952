use Rattle.in_gluing.proofs.GluedOnce.{glued_once}
use Rattle.in_gluing.proofs.laws.glued_once.Goals as goal

pub returns : goal.returns
returns c = glued_once
