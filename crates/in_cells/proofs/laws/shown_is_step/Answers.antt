use Rattle.in_cells.proofs.AllShown as proved
use Rattle.in_cells.proofs.laws.shown_is_step.Goals as goal

pub returns : goal.returns
returns c = proved.shown_is_step
