use Rattle.in_arena.proofs.Bags.{empty_is_of}
use Rattle.in_arena.proofs.laws.empty_bag_is_of.Goals as goal

pub returns : goal.returns
returns c = empty_is_of
