use Rattle.in_cells.proofs.Beside as proved
use Rattle.in_cells.proofs.laws.copies_stand_beside.Goals as goal

pub returns : goal.returns
returns c = proved.copies_stand_beside
