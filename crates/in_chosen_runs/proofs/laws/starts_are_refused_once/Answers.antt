use Rattle.in_chosen_runs.proofs.Refused.{starts_are_refused_once}
use Rattle.in_chosen_runs.proofs.laws.starts_are_refused_once.Goals as goal

pub returns : goal.returns
returns c = starts_are_refused_once
