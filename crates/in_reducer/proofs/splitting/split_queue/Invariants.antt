use Rattle.std.proofs.Common.{◌≡◌, ◌++◌, map, take, drop}
use Rattle.std.specs.List.{filter}
use Rattle.in_interaction.specs.Queues.{both}
use Rattle.in_cells.specs.Copying.{name_in}
use Rattle.in_reducer.specs.Splitting.{goes, stays}
use Rattle.in_reducer.proofs.splitting.split_queue.Given as goal

abbrev pub invariant-loop-pair : goal.invariant-loop-pair
invariant-loop-pair l = record {
  rest : l.queue.items ≡ drop l._pair l.fn.queue.items ++ filter (stays l.arena) (take l._pair l.fn.queue.items);
  part : l.part.items ≡ map (both (name_in l.names)) (filter (goes l.arena) (take l._pair l.fn.queue.items));
  rest_room : l.queue.room ≡ l.fn.queue.room;
  part_room : l.part.room ≡ l.fn.part.room;
}
