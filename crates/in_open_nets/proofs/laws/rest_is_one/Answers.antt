use Rattle.in_open_nets.proofs.Splits.OneAnswer.{one_rest}
use Rattle.in_open_nets.proofs.laws.rest_is_one.Goals as goal

pub returns : goal.returns
returns c = one_rest
