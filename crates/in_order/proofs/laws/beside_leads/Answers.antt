use Rattle.in_order.proofs.Parts.CutOnce.{beside_leads}
use Rattle.in_order.proofs.laws.beside_leads.Goals as goal

pub returns : goal.returns
returns c = beside_leads
