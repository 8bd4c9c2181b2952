use Rattle.std.proofs.Common.{◌≡◌, ◌+◌, ◌++◌, List, map, take, length}
use Rattle.in_arena.specs.declared.content.CellNo.{CellNo}
use Rattle.in_interaction.specs.Queues.{both}
use Rattle.in_reducer.specs.Interacting.{named}
use Rattle.in_reducer.specs.Wiring.{AreAtAgents, AreOwnPairs}
use Rattle.in_reducer.proofs.wiring.queue_begun.Given as goal

abbrev pub invariant-loop-number : goal.invariant-loop-number
invariant-loop-number l = record {
  items : (ns : List CellNo) → AreAtAgents ns l.points → AreOwnPairs ns l.member → l.queue.items ≡ l.fn.queue.items ++ map (both (named ns)) (take l.number l.member.pairs);
  room : length l.queue.items ≡ length l.fn.queue.items + l.number;
  capacity : l.queue.room ≡ l.fn.queue.room;
}
