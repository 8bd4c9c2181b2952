use Rattle.in_order.proofs.Gluing.Reducible.{reducible_steps_under_names}
use Rattle.in_order.proofs.laws.reducible_steps_under_names.Goals as goal

pub returns : goal.returns
returns c = reducible_steps_under_names
