use Rattle.in_crossing_circles.proofs.StuckParts.{stuck_circle}
use Rattle.in_crossing_circles.proofs.laws.stuck_parts_have_crossing_circles.Goals as goal

pub returns : goal.returns
returns c = λ o net t first. stuck_circle o net t first
