use Rattle.in_reducer.proofs.Results.{heads_are_one as law}
use Rattle.in_reducer.proofs.laws.heads_are_one.Goals as goal

pub returns : goal.returns
returns c = law
