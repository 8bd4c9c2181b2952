use Rattle.in_arena.specs.Arenas.{state_at}
use Rattle.in_cells.specs.Copying.{LeadsInto}
use Rattle.in_tests.proofs.Ends.{IsSoBelow}
use Rattle.in_tests.proofs.copies.expect_inside.Given as goal

abbrev pub invariant-loop-place : goal.invariant-loop-place
invariant-loop-place g l = IsSoBelow (state_at l.from l.agent.0) (LeadsInto l.agents l.many) l.place
