use Rattle.in_cells.specs.Copying.{number_in}
use Rattle.in_cells.specs.TakingOut.{AreNumberedAnew}
use Rattle.in_cells.specs.TakingOutSteps.{number_below}
use Rattle.in_cells.proofs.numbering.number_anew.Given as goal

abbrev pub invariant-loop-number : goal.invariant-loop-number
invariant-loop-number l = AreNumberedAnew (number_below (number_in l.numbers) l.number) l.fn.arena l.arena
