use Rattle.in_cells.specs.TakingOutSteps.{AreRetiredBelow}
use Rattle.in_cells.proofs.retiring.retire_all.Given as goal

abbrev pub invariant-loop-number : goal.invariant-loop-number
invariant-loop-number l = AreRetiredBelow l.agents l.fn.arena l.number l.arena
