use Rattle.in_cells.proofs.Split as proved
use Rattle.in_cells.proofs.laws.part_stands_beside.Goals as goal

pub returns : goal.returns
returns c = proved.part_stands_beside
