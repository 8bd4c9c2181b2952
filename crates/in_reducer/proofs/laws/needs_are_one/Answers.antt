use Rattle.in_reducer.proofs.Results.{needs_are_one as law}
use Rattle.in_reducer.proofs.laws.needs_are_one.Goals as goal

pub returns : goal.returns
returns c = law
