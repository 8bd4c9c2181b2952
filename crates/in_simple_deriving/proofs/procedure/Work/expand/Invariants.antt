use Rattle.std.proofs.Common.{◌≡◌, ◌++◌, reverse, length}
use Rattle.in_simple_deriving.proofs.procedure.Work.expand.Given as goal

abbrev pub invariant-loop-task : goal.invariant-loop-task
invariant-loop-task l = record {
  tasks : l.left ++ reverse l.self.tasks ≡ l.initial.left ++ reverse l.initial.self.tasks;
  steps : l.self.steps ≡ l.initial.self.steps;
  roots : l.self.roots ≡ l.initial.self.roots;
}

abbrev pub decreases-loop-task : goal.decreases-loop-task
decreases-loop-task l = length l.left
