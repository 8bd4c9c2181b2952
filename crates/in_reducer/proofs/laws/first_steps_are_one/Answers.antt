use Rattle.in_reducer.proofs.Results.{first_steps_are_one as law}
use Rattle.in_reducer.proofs.laws.first_steps_are_one.Goals as goal

pub returns : goal.returns
returns c = law
