use Rattle.in_open_nets_of_programs.proofs.RuleLaws.{rules_open}
use Rattle.in_open_nets_of_programs.proofs.laws.open_rules_are_open.Goals as goal

pub returns : goal.returns
returns c = rules_open
