use Rattle.std.proofs.Common.{◌≡◌, ◌+◌, ◌++◌, map, take, length}
use Rattle.in_interaction.specs.Queues.{both}
use Rattle.in_cells.specs.Copying.{name_in}
use Rattle.in_reducer.proofs.appending.add_pairs.Given as goal

abbrev pub invariant-loop-number : goal.invariant-loop-number
invariant-loop-number l = record {
  items : l.queue.items ≡ l.fn.queue.items ++ map (both (name_in l.names)) (take l.number l.pairs.items);
  long : length l.queue.items ≡ length l.fn.queue.items + l.number;
  capacity : l.queue.room ≡ l.fn.queue.room;
}
