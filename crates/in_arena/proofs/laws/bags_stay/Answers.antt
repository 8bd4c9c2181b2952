use Rattle.in_arena.proofs.Bags.{bag_stays}
use Rattle.in_arena.proofs.laws.bags_stay.Goals as goal

pub returns : goal.returns
returns c = bag_stays
