use Rattle.in_gluing.proofs.Cutting.{join_exists}
use Rattle.in_gluing.proofs.laws.join_exists.Goals as goal

pub returns : goal.returns
returns c = join_exists
