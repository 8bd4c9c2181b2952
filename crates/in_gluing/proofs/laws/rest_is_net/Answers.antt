use Rattle.in_gluing.proofs.TwoParts.{rest_is_net}
use Rattle.in_gluing.proofs.laws.rest_is_net.Goals as goal

pub returns : goal.returns
returns c = rest_is_net
