use Rattle.std.proofs.Common.{◌≡◌, ◌≤◌, ◌+◌, ◌++◌, drop, reverse, length}
use Rattle.in_reducer.proofs.queueing.queue_made.Given as goal

abbrev pub invariant-loop-number : goal.invariant-loop-number
invariant-loop-number l = record {
  items : l.queue.items ≡ l.fn.queue.items ++ reverse (drop l.number l.made.items);
  room : length l.queue.items + l.number ≤ l.fn.queue.room;
  capacity : l.queue.room ≡ l.fn.queue.room;
}
