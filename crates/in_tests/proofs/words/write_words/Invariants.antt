use Rattle.std.proofs.Common.{◌≡◌, length}
use Rattle.in_arena.specs.Arenas.{NoneLeased, state_at}
use Rattle.in_arena.specs.States.{places}
use Rattle.in_tests.proofs.words.write_words.Given as goal

abbrev pub invariant-loop-place : goal.invariant-loop-place
invariant-loop-place l = NoneLeased l.arena × (places (state_at l.arena l.cell.0) ≡ length l.ends) × (l.arena.cells ≡ l.fn.arena.cells)
