use Rattle.in_machine.proofs.InTurn.{queues_move}
use Rattle.in_machine.proofs.machine_laws.queues_move_up.Goals as goal

pub returns : goal.returns
returns c = queues_move
