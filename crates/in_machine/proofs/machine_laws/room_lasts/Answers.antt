use Rattle.in_machine.proofs.InTurn.{room_lasts}
use Rattle.in_machine.proofs.machine_laws.room_lasts.Goals as goal

pub returns : goal.returns
returns c = room_lasts
