use Rattle.in_usual_braces_of_programs.proofs.OfNets.{net_follows}
use Rattle.in_usual_braces_of_programs.proofs.Signed.{decided}
use Rattle.in_usual_braces_of_programs.proofs.laws.nets_in_usual_braces.Goals as goal

pub returns : goal.returns
returns c = λ t n o numbered whole over typed opens usual. decided t o (net_follows t n o numbered whole over typed opens) c.usual_braces_decide.ensures usual
