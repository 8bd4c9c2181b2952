use Rattle.std.proofs.Common.{◌≡◌, ◌*◌, ◌≤◌}
use Rattle.in_arena.specs.Classes.{classes}
use Rattle.in_compile.specs.Cells.{count_of}
use Rattle.in_compile.proofs.Public.{HaveItSoFar}
use Rattle.in_reducer.proofs.reducer.Reducer.room_for_any.Given as goal

abbrev pub invariant-loop-class : goal.invariant-loop-class
invariant-loop-class l = record {
  items : l.class-items ≡ classes;
  fits : HaveItSoFar (λ c. l.many * count_of l.need c ≤ count_of l.free c) l.class-index;
}
