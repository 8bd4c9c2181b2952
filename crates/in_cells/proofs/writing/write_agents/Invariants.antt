use Rattle.in_cells.specs.CopyingSteps.{AreMovedBelow}
use Rattle.in_cells.proofs.writing.write_agents.Given as goal

abbrev pub invariant-loop-number : goal.invariant-loop-number
invariant-loop-number l = AreMovedBelow l.from l.agents l.names l.ends l.fn.to l.number l.to
