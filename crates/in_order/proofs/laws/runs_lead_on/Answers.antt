use Rattle.in_order.proofs.Gluing.PartRuns.{runs_lead_on}
use Rattle.in_order.proofs.laws.runs_lead_on.Goals as goal

pub returns : goal.returns
returns c = runs_lead_on
