use Rattle.in_gluing.proofs.BothOrders.{orders_are_one as law}
use Rattle.in_gluing.proofs.laws.orders_are_one.Goals as goal

pub returns : goal.returns
returns c = law
