use Rattle.in_gluing.proofs.Cutting.{joins_lead_back}
use Rattle.in_gluing.proofs.laws.joins_lead_back.Goals as goal

pub returns : goal.returns
returns c = joins_lead_back
