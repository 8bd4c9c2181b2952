use Rattle.in_order.proofs.Gluing.Reducible.{reducible_steps_are_one}
use Rattle.in_order.proofs.laws.reducible_steps_are_one.Goals as goal

pub returns : goal.returns
returns c = reducible_steps_are_one
