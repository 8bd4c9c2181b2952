use Rattle.std.proofs.Common.{◌≡◌, sum_by, take}
use Rattle.in_arena.specs.Classes.{classes}
use Rattle.in_compile.specs.Cells.{agents_of}
use Rattle.in_reducer.specs.Standing.{agents_in}
use Rattle.in_reducer.proofs.reducer.Reducer.agents.Given as goal

abbrev pub invariant-loop-class : goal.invariant-loop-class
invariant-loop-class l = l.agents ≡ sum_by (λ c. agents_of l.self-inside.body.checked.now.program.tables c (agents_in l.self-inside.body.arena)) (take l.class-index classes)
