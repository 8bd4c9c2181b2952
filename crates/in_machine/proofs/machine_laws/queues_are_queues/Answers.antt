use Rattle.in_machine.proofs.StepsOn.{machine_queue}
use Rattle.in_machine.proofs.machine_laws.queues_are_queues.Goals as goal

pub returns : goal.returns
returns c = machine_queue
