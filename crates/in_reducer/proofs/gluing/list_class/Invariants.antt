use Rattle.std.proofs.Common.{◌≡◌, ◌≤◌, vec_len, vec_capacity}
use Rattle.in_cells.specs.CopyingSteps.{AreListedBelow}
use Rattle.in_reducer.proofs.gluing.list_class.Given as goal

abbrev pub invariant-loop-number : goal.invariant-loop-number
invariant-loop-number l = record {
  listed : AreListedBelow l.arena l.number l.cells.items;
  few : vec_len l.cells ≤ l.number;
  capacity : vec_capacity l.cells ≡ vec_capacity l.fn.cells;
}
