use Rattle.std.proofs.Common.{◌≡◌}
use Rattle.in_simple_deriving.specs.Progress.{until}
use Rattle.in_simple_deriving.proofs.plans.BegunPlan.class.Given as goal

abbrev pub invariant-loop-port : goal.invariant-loop-port
invariant-loop-port l = l.joined ≡ until l.fn.self l.port
