use Rattle.std.proofs.Common.{◌≡◌, length}
use Rattle.in_cells.specs.CopyingSteps.{HaveCellsBelow}
use Rattle.in_cells.proofs.taking.take_cells.Given as goal

abbrev pub invariant-loop-number : goal.invariant-loop-number
invariant-loop-number l = record {
  taken : HaveCellsBelow l.from l.agents l.fn.to l.number l.to l.names;
  names : length l.names ≡ length l.fn.names;
}
