use Rattle.in_run.proofs.Ended.{turns_alike as law}
use Rattle.in_run.proofs.laws.turns_are_one.Goals as goal

pub returns : goal.returns
returns c = law
