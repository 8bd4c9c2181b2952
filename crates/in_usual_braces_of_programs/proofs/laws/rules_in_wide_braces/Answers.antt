use Rattle.in_usual_braces_of_programs.proofs.OfRules.{rule_follows}
use Rattle.in_usual_braces_of_programs.proofs.Signed.{crossing_decided}
use Rattle.in_usual_braces_of_programs.proofs.laws.rules_in_wide_braces.Goals as goal

pub returns : goal.returns
returns c = λ t p o numbered whole net over heads typed opens wide. crossing_decided t o (rule_follows t p o numbered whole net over.member over.built opens heads typed) c.crossing_directed_circles_decide.ensures wide
