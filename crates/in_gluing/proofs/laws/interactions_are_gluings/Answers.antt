use Rattle.in_gluing.proofs.AsGluing.{interactions_are_gluings}
use Rattle.in_gluing.proofs.laws.interactions_are_gluings.Goals as goal

pub returns : goal.returns
returns c = interactions_are_gluings
