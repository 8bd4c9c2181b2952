use Rattle.in_order.proofs.Gluing.Reducible.{reducible_as_promised}
use Rattle.in_order.proofs.laws.reducible_as_promised.Goals as goal

pub returns : goal.returns
returns c = reducible_as_promised
