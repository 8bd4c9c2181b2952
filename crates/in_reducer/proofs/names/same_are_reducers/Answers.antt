use Rattle.in_reducer.proofs.Numbers.OfSame.{reducer_same}
use Rattle.in_reducer.proofs.names.same_are_reducers.Goals as goal

pub returns : goal.returns
returns c = λ m n h same. reducer_same m n h same.0 same.1
