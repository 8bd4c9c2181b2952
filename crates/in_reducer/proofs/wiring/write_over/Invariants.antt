use Rattle.std.proofs.Common.{◌≡◌, ◌≤◌, ◌+◌, ℕ, List, length, map}
use Rattle.in_arena.specs.declared.content.CellNo.{CellNo}
use Rattle.in_symbols.specs.Tables.{Tables}
use Rattle.in_cells.specs.Cells.{KeepsCells}
use Rattle.in_compile.specs.Wires.{over_of, over_point}
use Rattle.in_reducer.specs.Interacting.{PairSetting, interaction_of}
use Rattle.in_reducer.specs.Wiring.{HasQueued, IsWiring}
use Rattle.in_reducer.proofs.wiring.write_over.Given as goal

abbrev pub invariant-loop-number : goal.invariant-loop-number
invariant-loop-number l = record {
  written : (t : Tables) (s : PairSetting) (own : ℕ) (ns : List CellNo) → IsWiring t s l.template own ns l.points 0 l.fn.arena l.fn.ends → IsWiring t s l.template own ns l.points l.number l.arena l.ends;
  queued : (t : Tables) (s : PairSetting) (own : ℕ) (ns : List CellNo) → IsWiring t s l.template own ns l.points 0 l.fn.arena l.fn.ends
      → HasQueued t (interaction_of s ns) (map over_point (over_of l.template.member)) l.number l.fn.queue.items l.queue.items;
  kept : KeepsCells l.fn.arena l.arena;
  long : length l.ends ≡ length l.fn.ends;
  room : length l.queue.items ≤ length l.fn.queue.items + l.number;
  capacity : l.queue.room ≡ l.fn.queue.room;
}
