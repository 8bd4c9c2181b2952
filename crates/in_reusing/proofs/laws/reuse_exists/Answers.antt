use Rattle.in_reusing.proofs.InPlace.{reuse_exists}
use Rattle.in_reusing.proofs.laws.reuse_exists.Goals as goal

pub returns : goal.returns
returns c = reuse_exists
