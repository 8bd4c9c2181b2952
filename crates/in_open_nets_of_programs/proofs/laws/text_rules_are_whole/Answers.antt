use Rattle.in_open_nets_of_programs.proofs.TextRules.{rule_whole}
use Rattle.in_open_nets_of_programs.proofs.laws.text_rules_are_whole.Goals as goal

pub returns : goal.returns
returns c = λ limits t text p h. rule_whole limits t text p h
