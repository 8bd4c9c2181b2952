use Rattle.std.proofs.Common.{◌≡◌, ◌≤◌, vec_len, vec_capacity}
use Rattle.in_arena.proofs.Public.{of_first}
use Rattle.in_arena.specs.Classes.{classes}
use Rattle.in_cells.specs.CopyingSteps.{AreListedBelow}
use Rattle.in_reducer.proofs.gluing.list_live.Given as goal

abbrev pub invariant-loop-class : goal.invariant-loop-class
invariant-loop-class l = record {
  items : l.class-items ≡ classes;
  listed : AreListedBelow l.arena (of_first l.arena.cells l.class-index) l.cells.items;
  few : vec_len l.cells ≤ of_first l.arena.cells l.class-index;
  capacity : vec_capacity l.cells ≡ vec_capacity l.fn.cells;
}
