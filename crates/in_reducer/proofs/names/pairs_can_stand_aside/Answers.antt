use Rattle.in_reducer.proofs.Numbers.Before.{stand_aside}
use Rattle.in_reducer.proofs.names.pairs_can_stand_aside.Goals as goal

pub returns : goal.returns
returns c = stand_aside
