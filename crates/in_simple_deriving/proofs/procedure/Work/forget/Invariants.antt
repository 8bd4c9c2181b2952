use Rattle.std.proofs.Common.{◌≡◌}
use Rattle.in_simple_deriving.specs.Stacks.{AreLast}
use Rattle.in_simple_deriving.proofs.procedure.Work.forget.Given as goal

abbrev pub invariant-loop-root : goal.invariant-loop-root
invariant-loop-root l = record {
  tasks : l.self.tasks ≡ l.initial.self.tasks;
  steps : l.self.steps ≡ l.initial.self.steps;
  roots : AreLast l.root l.initial.self.roots l.self.roots;
}
