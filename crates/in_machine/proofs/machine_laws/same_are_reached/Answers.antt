use Rattle.in_machine.proofs.SameMachine.{reached_same}
use Rattle.in_machine.proofs.machine_laws.same_are_reached.Goals as goal

pub returns : goal.returns
returns c = reached_same
