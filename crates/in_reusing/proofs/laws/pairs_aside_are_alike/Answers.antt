use Rattle.in_reducer.proofs.Public.{pairs_aside_are_alike}
use Rattle.in_reusing.proofs.laws.pairs_aside_are_alike.Goals as goal

pub returns : goal.returns
returns c = pairs_aside_are_alike
