use Rattle.in_chosen_runs.proofs.Refused.{chosen_runs_are_refused_once}
use Rattle.in_chosen_runs.proofs.laws.chosen_runs_are_refused_once.Goals as goal

pub returns : goal.returns
returns c = chosen_runs_are_refused_once
