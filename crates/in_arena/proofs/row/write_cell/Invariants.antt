use Rattle.in_arena.proofs.Filling.{IsWrittenTo}
use Rattle.in_arena.proofs.row.write_cell.Given as goal

abbrev pub invariant-loop-place : goal.invariant-loop-place
invariant-loop-place l = IsWrittenTo l.fn.words l.spot l.ends l.place l.words
