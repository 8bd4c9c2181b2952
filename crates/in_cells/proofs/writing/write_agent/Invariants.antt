use Rattle.in_arena.specs.Arenas.{state_at}
use Rattle.in_cells.specs.Copying.{name_in, number_in}
use Rattle.in_cells.specs.CopyingSteps.{IsBeingMoved}
use Rattle.in_cells.proofs.writing.write_agent.Given as goal

abbrev pub invariant-loop-place : goal.invariant-loop-place
invariant-loop-place l = IsBeingMoved (name_in l.names) (number_in l.ends) (state_at l.from l.cell.0) (name_in l.names l.cell.0) l.place l.fn.to l.to
