use Rattle.in_open_nets_of_programs.proofs.RuleLaws.{no_circle}
use Rattle.in_open_nets_of_programs.proofs.laws.derivable_rules_have_no_circle.Goals as goal

pub returns : goal.returns
returns c = no_circle
