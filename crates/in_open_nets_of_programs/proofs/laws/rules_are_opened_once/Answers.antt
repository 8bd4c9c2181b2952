use Rattle.in_open_nets_of_programs.proofs.RuleLaws.{opened_once}
use Rattle.in_open_nets_of_programs.proofs.laws.rules_are_opened_once.Goals as goal

pub returns : goal.returns
returns c = opened_once
