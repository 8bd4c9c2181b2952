use Rattle.in_gluing.proofs.EndByEnd.{ends_from_none_to_all}
use Rattle.in_gluing.proofs.laws.ends_from_none_to_all.Goals as goal

pub returns : goal.returns
returns c = ends_from_none_to_all
