use Rattle.in_machine.proofs.StepsOn.{machine_promised}
use Rattle.in_machine.proofs.machine_laws.machines_as_promised.Goals as goal

pub returns : goal.returns
returns c = machine_promised
