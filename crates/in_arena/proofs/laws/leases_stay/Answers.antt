use Rattle.in_arena.proofs.Changes.{lease_stays}
use Rattle.in_arena.proofs.laws.leases_stay.Goals as goal

pub returns : goal.returns
returns c = lease_stays
