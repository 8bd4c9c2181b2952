use Rattle.in_cells.proofs.Shown as proved
use Rattle.in_cells.proofs.laws.copies_are_shown.Goals as goal

pub returns : goal.returns
returns c = proved.copies_are_shown
