use Rattle.std.proofs.Common.{◌≡◌, ◌+◌, ℕ, List, length}
use Rattle.in_arena.specs.declared.content.CellNo.{CellNo}
use Rattle.in_symbols.specs.Tables.{Tables}
use Rattle.in_cells.specs.Cells.{KeepsCells}
use Rattle.in_compile.specs.Wires.{over_of}
use Rattle.in_reducer.specs.Interacting.{PairSetting}
use Rattle.in_reducer.specs.Wiring.{IsWiring}
use Rattle.in_reducer.proofs.wiring.write_within.Given as goal

abbrev pub invariant-loop-number : goal.invariant-loop-number
invariant-loop-number l = record {
  written : (t : Tables) (s : PairSetting) (own : ℕ) (ns : List CellNo) → IsWiring t s l.template own ns l.points (length (over_of l.template.member)) l.fn.arena l.fn.ends
      → IsWiring t s l.template own ns l.points (length (over_of l.template.member) + l.number) l.arena l.ends;
  kept : KeepsCells l.fn.arena l.arena;
  long : length l.ends ≡ length l.fn.ends;
}
