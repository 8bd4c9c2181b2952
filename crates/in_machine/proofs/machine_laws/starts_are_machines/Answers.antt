use Rattle.in_machine.proofs.SameStart.{start_machine}
use Rattle.in_machine.proofs.machine_laws.starts_are_machines.Goals as goal

pub returns : goal.returns
returns c = λ limits text p cells m accepted few h. start_machine limits text p accepted cells m h few
