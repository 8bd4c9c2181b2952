use Rattle.in_machine.proofs.OneEnd.{normal_ends_are_one as law}
use Rattle.in_machine.proofs.machine_laws.normal_ends_are_one.Goals as goal

pub returns : goal.returns
returns c = law
