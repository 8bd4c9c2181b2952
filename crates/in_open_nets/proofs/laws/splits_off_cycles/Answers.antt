use Rattle.in_open_nets.proofs.Graphs.ClassWalks.{net_off_cycles}
use Rattle.in_open_nets.proofs.laws.splits_off_cycles.Goals as goal

pub returns : goal.returns
returns c = λ o net s number hub_edge es c n here. net_off_cycles o net s number hub_edge es c n here
