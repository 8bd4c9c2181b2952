use Rattle.in_reducer.proofs.Cuts.Undone.{joints_undo_cuts}
use Rattle.in_reducer.proofs.laws.joints_undo_cuts.Goals as goal

pub returns : goal.returns
returns c = joints_undo_cuts
