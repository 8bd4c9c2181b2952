use Rattle.in_arena.proofs.Bags.{vacant_apart}
use Rattle.in_arena.proofs.laws.free_cells_are_in_no_bag.Goals as goal

pub returns : goal.returns
returns c = λ a b n of free. vacant_apart b a n of free
