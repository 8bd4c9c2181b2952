use Rattle.in_gluing.proofs.MadeByJoining.{one_more_is_made}
use Rattle.in_gluing.proofs.laws.one_more_is_made.Goals as goal

pub returns : goal.returns
returns c = one_more_is_made
