use Rattle.in_arena.proofs.Lending.{lends_append}
use Rattle.in_arena.proofs.laws.lendings_join.Goals as goal

pub returns : goal.returns
returns c = lends_append
