use Rattle.in_reusing.proofs.Unmarked.{unmarked_lead_none_back}
use Rattle.in_reusing.proofs.laws.unmarked_lead_none_back.Goals as goal

pub returns : goal.returns
returns c = unmarked_lead_none_back
