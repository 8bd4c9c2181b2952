use Rattle.in_open_nets_of_programs.proofs.Counted.{text_net_there}
use Rattle.in_open_nets_of_programs.proofs.laws.text_nets_are_all_there.Goals as goal

pub returns : goal.returns
returns c = λ t text n h. text_net_there t text n h
