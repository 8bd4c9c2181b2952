use Rattle.in_reducer.proofs.Cuts.Reduced as proved
use Rattle.in_reducer.proofs.laws.cuts_are_undone.Goals as goal

pub returns : goal.returns
returns c = proved.cuts_are_undone
