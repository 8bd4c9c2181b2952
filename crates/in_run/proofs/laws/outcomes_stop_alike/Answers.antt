use Rattle.in_run.proofs.Ended.{ended_so}
use Rattle.in_run.proofs.laws.outcomes_stop_alike.Goals as goal

pub returns : goal.returns
returns c = ended_so
