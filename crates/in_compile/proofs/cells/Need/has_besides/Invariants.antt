use Rattle.std.proofs.Common.{◌≡◌, ◌+◌, ◌≤◌, ◌<◌}
use Rattle.in_arena.specs.Classes.{class_no, classes}
use Rattle.in_arena.specs.declared.content.CellClass.{CellClass}
use Rattle.in_compile.specs.Cells.{count_of}
use Rattle.in_compile.proofs.cells.Need.has_besides.Given as goal

abbrev pub invariant-loop-class : goal.invariant-loop-class
invariant-loop-class l = record { items : l.class-items ≡ classes; before : (d : CellClass) → class_no d < l.class-index → l.floor + count_of l.need d ≤ count_of l.self d }
