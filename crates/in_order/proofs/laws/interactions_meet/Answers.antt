use Rattle.in_order.proofs.Orders.EndAlike.{interactions_meet as law}
use Rattle.in_order.proofs.laws.interactions_meet.Goals as goal

pub returns : goal.returns
returns c = law
