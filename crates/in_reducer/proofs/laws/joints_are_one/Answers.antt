use Rattle.in_reducer.proofs.Results.{joints_are_one as law}
use Rattle.in_reducer.proofs.laws.joints_are_one.Goals as goal

pub returns : goal.returns
returns c = law
