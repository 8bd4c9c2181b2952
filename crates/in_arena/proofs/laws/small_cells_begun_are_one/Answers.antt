use Rattle.in_arena.proofs.Renumbering.{small_begun_one}
use Rattle.in_arena.proofs.laws.small_cells_begun_are_one.Goals as goal

pub returns : goal.returns
returns c = small_begun_one
