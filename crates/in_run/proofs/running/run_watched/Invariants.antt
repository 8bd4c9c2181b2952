use Rattle.std.proofs.Common.{◌-◌}
use Rattle.in_run.proofs.StatesOfRuns.{IsStateOfRun}
use Rattle.in_run.proofs.running.run_watched.Given as goal

abbrev pub invariant-loop-stop : goal.invariant-loop-stop
invariant-loop-stop g l = IsStateOfRun l.checked.program l.limits l.interactions l.machine

abbrev pub decreases-loop-stop : goal.decreases-loop-stop
decreases-loop-stop g l = l.limits.limit - l.interactions
