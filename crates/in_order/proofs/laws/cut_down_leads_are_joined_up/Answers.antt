use Rattle.in_order.proofs.Parts.CutDown.{cut_down_leads_are_joined_up}
use Rattle.in_order.proofs.laws.cut_down_leads_are_joined_up.Goals as goal

pub returns : goal.returns
returns c = cut_down_leads_are_joined_up
