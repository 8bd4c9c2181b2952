use Rattle.in_order.proofs.Parts.CutOnce.{cut_leads_are_joined}
use Rattle.in_order.proofs.laws.cut_leads_are_joined.Goals as goal

pub returns : goal.returns
returns c = cut_leads_are_joined
