use Rattle.in_gluing.proofs.TwoParts.{boundary_is_cut}
use Rattle.in_gluing.proofs.laws.boundary_is_cut.Goals as goal

pub returns : goal.returns
returns c = boundary_is_cut
