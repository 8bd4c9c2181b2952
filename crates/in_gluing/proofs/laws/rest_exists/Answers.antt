use Rattle.in_gluing.proofs.Rest.{rest_exists}
use Rattle.in_gluing.proofs.laws.rest_exists.Goals as goal

pub returns : goal.returns
returns c = rest_exists
