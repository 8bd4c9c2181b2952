use Rattle.in_cells.proofs.Shown as proved
use Rattle.in_cells.proofs.laws.all_are_closed.Goals as goal

pub returns : goal.returns
returns c = proved.all_are_closed
