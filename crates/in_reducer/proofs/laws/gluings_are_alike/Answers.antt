use Rattle.in_reducer.proofs.Parts.SplitAlike.{gluings_are_alike}
use Rattle.in_reducer.proofs.laws.gluings_are_alike.Goals as goal

pub returns : goal.returns
returns c = gluings_are_alike
