use Rattle.in_gluing.proofs.BothOrders.{interactions_commute as law}
use Rattle.in_gluing.proofs.laws.interactions_commute.Goals as goal

pub returns : goal.returns
returns c = law
