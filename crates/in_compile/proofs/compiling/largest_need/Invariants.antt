use Rattle.in_arena.specs.declared.content.CellClass.{CellClass}
use Rattle.in_compile.specs.Cells.{count_of}
use Rattle.in_compile.specs.Finding.{listed}
use Rattle.in_compile.specs.Templates.{cells_needed}
use Rattle.in_compile.proofs.Needs.Most.{IsMostBelow}
use Rattle.in_compile.proofs.compiling.largest_need.Given as goal

abbrev pub invariant-loop-number : goal.invariant-loop-number
invariant-loop-number l = (c : CellClass) → IsMostBelow (listed l.templates) (cells_needed c) l.number (count_of l.largest c)
