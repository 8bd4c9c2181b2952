use Rattle.in_arena.proofs.Lending.{lends_one}
use Rattle.in_arena.proofs.laws.lease_lends.Goals as goal

pub returns : goal.returns
returns c = lends_one
