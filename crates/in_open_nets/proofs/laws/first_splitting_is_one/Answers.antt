use Rattle.in_open_nets.proofs.Splits.OneAnswer.{one_first_splitting}
use Rattle.in_open_nets.proofs.laws.first_splitting_is_one.Goals as goal

pub returns : goal.returns
returns c = one_first_splitting
