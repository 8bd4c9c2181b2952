use Rattle.in_order.proofs.Orders.EndAlike.{runs_are_joined as law}
use Rattle.in_order.proofs.laws.runs_are_joined.Goals as goal

pub returns : goal.returns
returns c = law
