use Rattle.in_reducer.proofs.Numbers.OfSame.{start_same_as}
use Rattle.in_reducer.proofs.names.starts_can_be_renamed.Goals as goal

pub returns : goal.returns
returns c = start_same_as
