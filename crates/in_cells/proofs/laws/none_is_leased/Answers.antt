use Rattle.in_cells.proofs.Shown as proved
use Rattle.in_cells.proofs.laws.none_is_leased.Goals as goal

pub returns : goal.returns
returns c = proved.none_is_leased
