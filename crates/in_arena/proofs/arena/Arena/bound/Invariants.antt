use Rattle.std.proofs.Common.{◌≡◌, ◌≤◌, ◌<◌, ℕ}
use Rattle.in_arena.specs.Arenas.{state_at}
use Rattle.in_arena.specs.Classes.{classes}
use Rattle.in_arena.specs.States.{Vacant}
use Rattle.in_arena.proofs.Classes.{of_first}
use Rattle.in_arena.proofs.arena.Arena.bound.Given as goal

abbrev pub invariant-loop-class : goal.invariant-loop-class
invariant-loop-class l = record {
  items : l.class-items ≡ classes;
  few : l.bound ≤ of_first l.self.cells l.class-index;
  rest : (n : ℕ) → l.bound ≤ n → n < of_first l.self.cells l.class-index → state_at l.self n ≡ Vacant;
}
