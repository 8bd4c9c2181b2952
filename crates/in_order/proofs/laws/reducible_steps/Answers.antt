use Rattle.in_order.proofs.Gluing.Reducible.{reducible_steps}
use Rattle.in_order.proofs.laws.reducible_steps.Goals as goal

pub returns : goal.returns
returns c = reducible_steps
