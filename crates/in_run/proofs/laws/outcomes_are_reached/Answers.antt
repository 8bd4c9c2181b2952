use Rattle.in_run.proofs.Ended.{ended_reached}
use Rattle.in_run.proofs.laws.outcomes_are_reached.Goals as goal

pub returns : goal.returns
returns c = λ limits text p l o accepted h. ended_reached p l o h
