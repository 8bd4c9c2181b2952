use Rattle.in_reusing.proofs.InPlace.{reuse_is_one}
use Rattle.in_reusing.proofs.laws.reuse_is_one.Goals as goal

pub returns : goal.returns
returns c = reuse_is_one
