use Rattle.std.proofs.Common.{◌≡◌, ◌≤◌, ◌-◌}
use Rattle.in_reducer.specs.Same.{RunsUpToNumbers}
use Rattle.in_reducer.proofs.reducer.Reducer.take_first.Given as goal

abbrev pub invariant-loop-count : goal.invariant-loop-count
invariant-loop-count l = record {
  few : l.count ≤ l.most;
  runs : RunsUpToNumbers l.initial.self l.count l.self;
  program : l.self.program ≡ l.initial.self.program;
}

abbrev pub decreases-loop-count : goal.decreases-loop-count
decreases-loop-count l = l.most - l.count
