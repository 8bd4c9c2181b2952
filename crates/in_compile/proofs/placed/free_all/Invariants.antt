use Rattle.in_arena.specs.States.{Vacant, IsLeased}
use Rattle.in_compile.specs.PlacingSteps.{AreOnTheWay}
use Rattle.in_compile.proofs.placed.free_all.Given as goal

abbrev pub invariant-loop-number : goal.invariant-loop-number
invariant-loop-number l = AreOnTheWay (λ _. Vacant) (λ x. IsLeased x → ⊥) l.numbers l.number l.fn.arena l.fn.bag l.arena l.bag
