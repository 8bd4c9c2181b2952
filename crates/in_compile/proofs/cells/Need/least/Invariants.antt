use Rattle.std.proofs.Common.{◌≡◌, ◌≤◌}
use Rattle.in_arena.specs.Classes.{classes}
use Rattle.in_arena.specs.declared.content.CellClass.{CellClass}
use Rattle.in_compile.specs.Cells.{count_of}
use Rattle.in_compile.proofs.Needs.Classes.{HaveItSoFar}
use Rattle.in_compile.proofs.cells.Need.least.Given as goal

abbrev pub invariant-loop-class : goal.invariant-loop-class
invariant-loop-class l = record {
  items : l.class-items ≡ classes;
  least : HaveItSoFar (λ d. l.least ≤ count_of l.self d) l.class-index;
  one : (d : CellClass) × (count_of l.self d ≡ l.least);
}
