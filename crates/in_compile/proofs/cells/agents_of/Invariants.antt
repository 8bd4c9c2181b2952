use Rattle.std.proofs.Common.{◌≡◌, take, count_by}
use Rattle.in_compile.specs.Cells.{takes}
use Rattle.in_compile.proofs.cells.agents_of.Given as goal

abbrev pub invariant-loop-number : goal.invariant-loop-number
invariant-loop-number l = l.count ≡ count_by (takes l.symbols l.class) (take l.number l.net.cells)
