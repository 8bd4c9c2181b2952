use Rattle.in_reducer.proofs.Numbers.Renamed.{machine_under, is_under}
use Rattle.in_reducer.proofs.names.reducers_can_be_renamed.Goals as goal

pub returns : goal.returns
returns c = λ m f h apart. (machine_under f m, is_under f m apart)
