use Rattle.in_reducer.proofs.Parts.SplitAlike.{splits_are_alike}
use Rattle.in_reducer.proofs.laws.splits_are_alike.Goals as goal

pub returns : goal.returns
returns c = splits_are_alike
