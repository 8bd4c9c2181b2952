use Rattle.in_overwriting.proofs.Overwriting.Flagged.{one_class_of_one_agent}
use Rattle.in_overwriting.proofs.laws.one_class_of_one_agent.Goals as goal

pub returns : goal.returns
returns c = one_class_of_one_agent
