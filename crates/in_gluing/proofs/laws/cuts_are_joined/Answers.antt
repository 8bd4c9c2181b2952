use Rattle.in_gluing.proofs.Cutting.{cuts_are_joined}
use Rattle.in_gluing.proofs.laws.cuts_are_joined.Goals as goal

pub returns : goal.returns
returns c = cuts_are_joined
