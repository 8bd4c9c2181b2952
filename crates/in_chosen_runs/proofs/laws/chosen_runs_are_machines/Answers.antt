use Rattle.in_chosen_runs.proofs.OneEnd.{chosen_runs_are_machines}
use Rattle.in_chosen_runs.proofs.laws.chosen_runs_are_machines.Goals as goal

pub returns : goal.returns
returns c = chosen_runs_are_machines
