use Rattle.in_gluing.proofs.MadeByJoining.{pairs_are_made_where_joined}
use Rattle.in_gluing.proofs.laws.pairs_are_made_where_joined.Goals as goal

pub returns : goal.returns
returns c = pairs_are_made_where_joined
