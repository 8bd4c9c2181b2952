use Rattle.std.proofs.Common.{◌≡◌, ◌≤◌, ◌-◌}
use Rattle.in_reducer.specs.Same.{RunsUpToNumbers}
use Rattle.in_reducer.proofs.reducer.Reducer.take_sure.Given as goal

abbrev pub invariant-loop-left : goal.invariant-loop-left
invariant-loop-left l = record {
  few : l.left ≤ l.sure;
  runs : RunsUpToNumbers l.initial.self (l.sure - l.left) l.self;
  program : l.self.program ≡ l.initial.self.program;
}

abbrev pub decreases-loop-left : goal.decreases-loop-left
decreases-loop-left l = l.left
