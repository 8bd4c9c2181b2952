use Rattle.in_arena.proofs.Changes.{leases_differ}
use Rattle.in_arena.proofs.laws.leases_differ.Goals as goal

pub returns : goal.returns
returns c = leases_differ
