use Rattle.in_machine.proofs.StepsOn.{machine_on}
use Rattle.in_machine.proofs.machine_laws.steps_keep_machines.Goals as goal

pub returns : goal.returns
returns c = λ m o i h s. machine_on m o i h s
