use Rattle.in_order.proofs.Parts.Leading.{parts_lead_the_whole}
use Rattle.in_order.proofs.laws.parts_lead_the_whole.Goals as goal

pub returns : goal.returns
returns c = parts_lead_the_whole
