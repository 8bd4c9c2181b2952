use Rattle.in_arena.proofs.Bags.{lease_to_takes_one}
use Rattle.in_arena.proofs.laws.lease_to_takes_one.Goals as goal

pub returns : goal.returns
returns c = lease_to_takes_one
