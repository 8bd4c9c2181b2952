use Rattle.in_order.proofs.Orders.EndAlike.{runs_end_alike as law}
use Rattle.in_order.proofs.laws.runs_end_alike.Goals as goal

pub returns : goal.returns
returns c = law
