use Rattle.in_open_nets_of_programs.proofs.Classes.{tables_numbered}
use Rattle.in_open_nets_of_programs.proofs.laws.tables_are_numbered.Goals as goal

pub returns : goal.returns
returns c = λ source t h. tables_numbered source t h
