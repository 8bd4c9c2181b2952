use Rattle.in_order.proofs.Gluing.Reducible.{reducible_pairs_have_their_rule}
use Rattle.in_order.proofs.laws.reducible_pairs_have_their_rule.Goals as goal

pub returns : goal.returns
returns c = reducible_pairs_have_their_rule
