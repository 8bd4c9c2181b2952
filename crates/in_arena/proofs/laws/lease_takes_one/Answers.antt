use Rattle.in_arena.proofs.Changes.{lease_takes_one}
use Rattle.in_arena.proofs.laws.lease_takes_one.Goals as goal

pub returns : goal.returns
returns c = lease_takes_one
