use Rattle.in_open_nets_of_programs.proofs.OfRules.{rule_circle}
use Rattle.in_open_nets_of_programs.proofs.laws.rule_circles_are_open.Goals as goal

pub returns : goal.returns
returns c = λ t p o a b numbered rule_whole whole over opens circle. rule_circle t p o numbered rule_whole whole over.member over.built opens circle
