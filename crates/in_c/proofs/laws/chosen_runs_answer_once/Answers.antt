use Rattle.in_c.proofs.ChosenOnce.{run_by_answers_are_one}
use Rattle.in_c.proofs.laws.chosen_runs_answer_once.Goals as goal

pub returns : goal.returns
returns c = run_by_answers_are_one c.chosen_runs_are_one.ensures c.chosen_runs_are_machines.ensures c.starts_are_refused_once.ensures c.texts_are_same.ensures
