use Rattle.in_growing_graphs.proofs.Walks.{two_ways}
use Rattle.in_growing_graphs.proofs.laws.two_ways_are_cycles.Goals as goal

pub returns : goal.returns
returns c = two_ways
