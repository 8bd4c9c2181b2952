use Rattle.in_machine.proofs.SameRun.{run_keeps}
use Rattle.in_machine.proofs.machine_laws.runs_reach.Goals as goal

pub returns : goal.returns
returns c = λ m n j k machine reached run. (run_keeps m n j k machine.plain reached run).1
