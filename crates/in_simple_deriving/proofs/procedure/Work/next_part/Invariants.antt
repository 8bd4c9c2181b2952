use Rattle.std.proofs.Common.{reverse, length}
use Rattle.in_simple_deriving.specs.Procedure.{PassesSteps}
use Rattle.in_simple_deriving.specs.Stacks.{AdvancesTasks}
use Rattle.in_simple_deriving.proofs.procedure.Work.next_part.Given as goal

abbrev pub invariant-loop-task : goal.invariant-loop-task
invariant-loop-task l = record {
  passes : PassesSteps (reverse l.initial.self.tasks) (reverse l.self.tasks);
  advances : AdvancesTasks (reverse l.initial.self.tasks) l.initial.self.steps l.initial.self.roots (reverse l.self.tasks) l.self.steps l.self.roots;
}

abbrev pub decreases-loop-task : goal.decreases-loop-task
decreases-loop-task l = length l.self.tasks
