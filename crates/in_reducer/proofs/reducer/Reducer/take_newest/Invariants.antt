use Rattle.std.proofs.Common.{◌≤◌, ◌-◌}
use Rattle.in_arena.specs.declared.content.CellClass.{CellClass}
use Rattle.in_compile.specs.Cells.{count_of}
use Rattle.in_reducer.specs.Parting.{ReducesTo}
use Rattle.in_reducer.proofs.reducer.Reducer.take_newest.Given as goal

abbrev pub invariant-loop-count : goal.invariant-loop-count
invariant-loop-count l = record {
  reduces : ReducesTo l.initial.self l.count l.self;
  most : l.count ≤ l.most;
  floor : ((c : CellClass) → l.floor ≤ count_of l.initial.self.vacant c) → (c : CellClass) → l.floor ≤ count_of l.self.vacant c;
}

abbrev pub decreases-loop-count : goal.decreases-loop-count
decreases-loop-count l = l.most - l.count
