use Rattle.std.proofs.Common.{reverse, length}
use Rattle.in_open_nets.specs.Constructions.{count}
use Rattle.in_simple_deriving.specs.Procedure.{IsWork, pending_in}
use Rattle.in_simple_deriving.specs.Stacks.{IsUnderWay}
use Rattle.in_simple_deriving.proofs.procedure.finish.Given as goal

abbrev pub invariant-loop-part : goal.invariant-loop-part
invariant-loop-part l = record {
  work : IsWork l.wired (reverse l.work.tasks);
  steps : IsUnderWay l.wired (reverse l.work.tasks) l.work.steps l.work.roots;
}

abbrev pub decreases-loop-part : goal.decreases-loop-part
decreases-loop-part l = count (pending_in (reverse l.work.tasks)) (length l.wired.nodes)
