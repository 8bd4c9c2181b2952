use Rattle.in_simple_deriving.proofs.OneAnswer.{one_stuck_place}
use Rattle.in_simple_deriving.proofs.laws.one_stuck_place.Goals as goal

pub returns : goal.returns
returns c = one_stuck_place
