use Rattle.in_arena.proofs.Renumbering.{begun_one}
use Rattle.in_arena.proofs.laws.begun_cells_are_one.Goals as goal

pub returns : goal.returns
returns c = begun_one
