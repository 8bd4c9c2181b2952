use Rattle.in_usual_braces_of_programs.proofs.Members.{rule_decides}
use Rattle.in_usual_braces_of_programs.proofs.laws.right_members_decide.Goals as goal

pub returns : goal.returns
returns c = λ t p o numbered whole net over heads typed opens usual. rule_decides t p o numbered whole net over.member over.built opens usual (c.rules_in_usual_braces.ensures t p o numbered whole net over heads typed opens usual)
