use Rattle.in_reducer.proofs.Results.{cuts_are_one as law}
use Rattle.in_reducer.proofs.laws.cuts_are_one.Goals as goal

pub returns : goal.returns
returns c = law
