use Rattle.in_order.proofs.Gluing.PartRuns.{runs_go_on}
use Rattle.in_order.proofs.laws.runs_go_on.Goals as goal

pub returns : goal.returns
returns c = runs_go_on
