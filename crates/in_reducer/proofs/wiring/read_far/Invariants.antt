use Rattle.std.proofs.Common.{◌≡◌, ◌+◌, List, length}
use Rattle.in_arena.specs.declared.content.End.{End}
use Rattle.in_reducer.specs.Wiring.{HasPortsIn}
use Rattle.in_reducer.proofs.wiring.read_far.Given as goal

abbrev pub invariant-loop-number : goal.invariant-loop-number
invariant-loop-number l = record {
  read : (before : List End) → HasPortsIn l.arena l.fn.cell l.first (l.first + 2) before l.fn.points → HasPortsIn l.arena l.fn.cell l.first l.number before l.points;
  long : length l.points ≡ length l.fn.points;
}
