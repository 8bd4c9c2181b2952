use Rattle.in_machine.proofs.SameStart.{same_start}
use Rattle.in_machine.proofs.machine_laws.starts_are_same.Goals as goal

pub returns : goal.returns
returns c = λ limits text p cells m n accepted h g. same_start limits text p accepted cells m n h g
