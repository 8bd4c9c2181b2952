use Rattle.in_gluing.proofs.BothOrders.{orders_are_both_at_once as law}
use Rattle.in_gluing.proofs.laws.orders_are_both_at_once.Goals as goal

pub returns : goal.returns
returns c = law
