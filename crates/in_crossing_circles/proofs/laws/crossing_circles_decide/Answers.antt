use Rattle.in_open_nets.proofs.Public.{derivable_no_circle}
use Rattle.in_crossing_circles.proofs.StuckParts.{circle_or_derivable}
use Rattle.in_crossing_circles.proofs.laws.crossing_circles_decide.Goals as goal

pub returns : goal.returns
returns c = λ o net. (derivable_no_circle o net, circle_or_derivable o net c.splits_or_first_stuck.ensures c.splits_where_derivable.ensures)
