use Rattle.std.proofs.Common.{◌≡◌}
use Rattle.in_reducer.specs.Same.{RunsUpToNumbers}
use Rattle.in_reducer.specs.Taking.{AreAhead}
use Rattle.in_reducer.proofs.reducer.Reducer.take_together.Given as goal

abbrev pub invariant-loop-number : goal.invariant-loop-number
invariant-loop-number l = record {
  runs : RunsUpToNumbers l.initial.self l.number l.self;
  ahead : AreAhead l.self l.heads l.number;
  program : l.self.program ≡ l.initial.self.program;
}
