use Rattle.in_machine.proofs.Taking.{firsts_taken_are_one}
use Rattle.in_machine.proofs.machine_laws.firsts_taken_are_one.Goals as goal

pub returns : goal.returns
returns c = firsts_taken_are_one
