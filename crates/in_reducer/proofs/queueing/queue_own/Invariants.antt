use Rattle.std.proofs.Common.{◌≡◌, ◌+◌, ◌++◌, map, take, length}
use Rattle.in_interaction.specs.Queues.{both}
use Rattle.in_reducer.specs.Interacting.{named}
use Rattle.in_reducer.proofs.queueing.queue_own.Given as goal

abbrev pub invariant-loop-number : goal.invariant-loop-number
invariant-loop-number l = record {
  items : l.queue.items ≡ l.fn.queue.items ++ map (both (named l.placed.cells)) (take l.number l.member.pairs);
  long : length l.queue.items ≡ length l.fn.queue.items + l.number;
  capacity : l.queue.room ≡ l.fn.queue.room;
}
