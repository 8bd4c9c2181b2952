use Rattle.in_arena.specs.Beginning.{AreSmall, BeginsFrom}
use Rattle.in_arena.proofs.arena.Arena.begin_small.Given as goal

abbrev pub invariant-loop-number : goal.invariant-loop-number
invariant-loop-number l = record {
  begun : BeginsFrom l.cells l.from l.first l.fn.self l.fn.points l.number l.self l.points;
  small : AreSmall l.cells l.from l.number;
}
