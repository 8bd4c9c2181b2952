use Rattle.in_run.proofs.SameOutcome.{same_stop}
use Rattle.in_run.proofs.laws.stops_are_one.Goals as goal

pub returns : goal.returns
returns c = λ m limit k s t machine. same_stop m machine limit k s t
