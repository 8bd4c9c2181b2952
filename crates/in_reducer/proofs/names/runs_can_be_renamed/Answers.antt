use Rattle.in_reducer.proofs.Numbers.Before.{run_before}
use Rattle.in_reducer.proofs.names.runs_can_be_renamed.Goals as goal

pub returns : goal.returns
returns c = run_before
