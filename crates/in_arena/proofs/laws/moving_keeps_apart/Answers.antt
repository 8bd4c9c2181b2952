use Rattle.in_arena.proofs.Bags.{moved_apart}
use Rattle.in_arena.proofs.laws.moving_keeps_apart.Goals as goal

pub returns : goal.returns
returns c = moved_apart
