use Rattle.in_machine.proofs.SameMachine.{machine_same}
use Rattle.in_machine.proofs.machine_laws.same_are_machines.Goals as goal

pub returns : goal.returns
returns c = machine_same
