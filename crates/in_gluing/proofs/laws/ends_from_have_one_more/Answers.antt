use Rattle.in_gluing.proofs.EndByEnd.{ends_from_have_one_more}
use Rattle.in_gluing.proofs.laws.ends_from_have_one_more.Goals as goal

pub returns : goal.returns
returns c = ends_from_have_one_more
