use Rattle.in_order.proofs.Orders.EndAlike.{runs_lead_to_the_end as law}
use Rattle.in_order.proofs.laws.runs_lead_to_the_end.Goals as goal

pub returns : goal.returns
returns c = law
