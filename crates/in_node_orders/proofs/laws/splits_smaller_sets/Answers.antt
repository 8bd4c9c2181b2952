use Rattle.in_node_orders.proofs.Components.{splits_smaller}
use Rattle.in_node_orders.proofs.laws.splits_smaller_sets.Goals as goal

pub returns : goal.returns
returns c = λ o s d n inside h. splits_smaller o d s n inside h
