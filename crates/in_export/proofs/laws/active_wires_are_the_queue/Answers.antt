use Rattle.in_export.proofs.Active.{active_wires_are_the_queue as law}
use Rattle.in_export.proofs.laws.active_wires_are_the_queue.Goals as goal

pub returns : goal.returns
returns c = law
