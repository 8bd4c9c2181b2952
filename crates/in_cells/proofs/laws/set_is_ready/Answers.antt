use Rattle.in_cells.proofs.Started as proved
use Rattle.in_cells.proofs.laws.set_is_ready.Goals as goal

pub returns : goal.returns
returns c = proved.set_is_ready
