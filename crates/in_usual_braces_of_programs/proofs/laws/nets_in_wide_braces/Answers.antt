use Rattle.in_usual_braces_of_programs.proofs.OfNets.{net_follows}
use Rattle.in_usual_braces_of_programs.proofs.Signed.{crossing_decided}
use Rattle.in_usual_braces_of_programs.proofs.laws.nets_in_wide_braces.Goals as goal

pub returns : goal.returns
returns c = λ t n o numbered whole over typed opens wide. crossing_decided t o (net_follows t n o numbered whole over typed opens) c.crossing_directed_circles_decide.ensures wide
