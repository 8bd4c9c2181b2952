use Rattle.in_order.proofs.Gluing.Reducible.{plain_is_reducible}
use Rattle.in_order.proofs.laws.plain_is_reducible.Goals as goal

pub returns : goal.returns
returns c = plain_is_reducible
