use Rattle.std.proofs.Common.{◌≡◌, take}
use Rattle.in_net.proofs.copying.cells.Given as goal

abbrev pub invariant-loop-cell : goal.invariant-loop-cell
invariant-loop-cell l = l.copy ≡ take l.cell-index l.cells
