use Rattle.in_open_nets_of_programs.proofs.Opened.{is_open_net}
use Rattle.in_open_nets_of_programs.proofs.laws.open_nets_are_open.Goals as goal

pub returns : goal.returns
returns c = λ t n o numbered whole over opens. is_open_net t n o numbered whole over opens
