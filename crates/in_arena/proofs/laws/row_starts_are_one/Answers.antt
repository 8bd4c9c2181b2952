use Rattle.in_arena.proofs.RowStarts.{row_starts_one}
use Rattle.in_arena.proofs.laws.row_starts_are_one.Goals as goal

pub returns : goal.returns
returns c = row_starts_one
