use Rattle.in_gluing.proofs.MadeByJoining.{no_more_is_made}
use Rattle.in_gluing.proofs.laws.no_more_is_made.Goals as goal

pub returns : goal.returns
returns c = no_more_is_made
