use Rattle.in_machine.proofs.StepsOn.{as_reducer}
use Rattle.in_machine.proofs.machine_laws.machines_are_reducers.Goals as goal

pub returns : goal.returns
returns c = as_reducer
