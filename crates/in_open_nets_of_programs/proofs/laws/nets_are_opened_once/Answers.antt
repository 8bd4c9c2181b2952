use Rattle.in_open_nets_of_programs.proofs.OneOpening.{one_open_net}
use Rattle.in_open_nets_of_programs.proofs.laws.nets_are_opened_once.Goals as goal

pub returns : goal.returns
returns c = one_open_net
