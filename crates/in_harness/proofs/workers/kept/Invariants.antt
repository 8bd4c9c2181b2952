use Rattle.std.proofs.Common.{◌≤◌}
use Rattle.in_rounds.specs.Gathers.{bags_of}
use Rattle.in_rounds.specs.Holding.{HaveAllLeased}
use Rattle.in_harness.proofs.workers.kept.Given as goal

abbrev pub invariant-loop-job : goal.invariant-loop-job
invariant-loop-job l = record {
  all : HaveAllLeased (bags_of l.gather.slots) l.arena;
  few : l.kept ≤ l.job;
}
