use Rattle.in_reducer.proofs.Results.{settled_leases_are_one as law}
use Rattle.in_reducer.proofs.laws.settled_leases_are_one.Goals as goal

pub returns : goal.returns
returns c = law
