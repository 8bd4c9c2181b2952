use Rattle.in_run.proofs.StatesOfRuns.{turns_are_allowed as law}
use Rattle.in_run.proofs.laws.turns_are_allowed.Goals as goal

pub returns : goal.returns
returns c = law
