use Rattle.in_arena.proofs.Bags.{lease_in_no_bag}
use Rattle.in_arena.proofs.laws.lease_is_in_no_bag.Goals as goal

pub returns : goal.returns
returns c = lease_in_no_bag
