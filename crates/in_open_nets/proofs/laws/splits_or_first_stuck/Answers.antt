use Rattle.in_open_nets.proofs.Built.Both.{splits_or_first_stuck}
use Rattle.in_open_nets.proofs.laws.splits_or_first_stuck.Goals as goal

pub returns : goal.returns
returns c = λ o net. splits_or_first_stuck o net
