use Rattle.in_order.proofs.Parts.Leading.{leads_go_on}
use Rattle.in_order.proofs.laws.leads_go_on.Goals as goal

pub returns : goal.returns
returns c = leads_go_on
