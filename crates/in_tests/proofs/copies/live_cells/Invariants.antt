use Rattle.in_cells.specs.CopyingSteps.{AreListedBelow}
use Rattle.in_tests.proofs.copies.live_cells.Given as goal

abbrev pub invariant-loop-number : goal.invariant-loop-number
invariant-loop-number l = AreListedBelow l.arena l.number l.cells.items
