use Rattle.in_arena.proofs.Bags.{stay_apart}
use Rattle.in_arena.proofs.laws.bags_stay_apart.Goals as goal

pub returns : goal.returns
returns c = stay_apart
