use Rattle.in_usual_braces_of_programs.proofs.Members.{net_decides}
use Rattle.in_usual_braces_of_programs.proofs.laws.nets_decide.Goals as goal

pub returns : goal.returns
returns c = λ t n o numbered whole over typed opens usual. net_decides t n o numbered whole over opens (c.nets_in_usual_braces.ensures t n o numbered whole over typed opens usual)
