use Rattle.std.proofs.Common.{◌≡◌}
use Rattle.in_arena.proofs.Beginning.{IsListing}
use Rattle.in_arena.proofs.Inside.{with_row}
use Rattle.in_arena.proofs.arena.Arena.begin_listed.Given as goal

abbrev pub invariant-loop-number : goal.invariant-loop-number
invariant-loop-number l = record {
  begun : IsListing l.initial.self-inside l.fn.self l.cells l.from l.first l.fn.points l.self-inside.words l.next l.begun l.points;
  rest : l.self-inside ≡ with_row l.initial.self-inside l.self-inside.words l.initial.self-inside.lists;
  same : l.begun ≡ l.number;
}
