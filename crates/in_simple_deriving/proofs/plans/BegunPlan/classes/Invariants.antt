use Rattle.std.proofs.Common.{◌≡◌, ◌≤◌, ◌+◌, ◌-◌}
use Rattle.in_simple_deriving.specs.Progress.{until}
use Rattle.in_simple_deriving.proofs.plans.BegunPlan.classes.Given as goal

abbrev pub invariant-loop-port : goal.invariant-loop-port
invariant-loop-port l = record {
  same : l.classes ≡ until l.fn.self l.port;
  bound : l.port ≤ 1 + (l.port-end - 1);
}
