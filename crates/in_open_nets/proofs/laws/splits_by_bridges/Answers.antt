use Rattle.in_open_nets.proofs.Graphs.ClassWalks.{net_by_bridges}
use Rattle.in_open_nets.proofs.laws.splits_by_bridges.Goals as goal

pub returns : goal.returns
returns c = λ o net n s here. net_by_bridges o net n s here
