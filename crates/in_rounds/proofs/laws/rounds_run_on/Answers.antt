use Rattle.in_rounds.proofs.Rounded.{runs_on}
use Rattle.in_rounds.proofs.laws.rounds_run_on.Goals as goal

pub returns : goal.returns
returns c = runs_on
