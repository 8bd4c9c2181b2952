use Rattle.in_run.proofs.Ended.{ended_machine}
use Rattle.in_run.proofs.laws.outcomes_are_machines.Goals as goal

pub returns : goal.returns
returns c = λ limits text p l o accepted h. ended_machine p l o h
