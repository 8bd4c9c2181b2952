use Rattle.std.proofs.Common.{◌-◌}
use Rattle.in_run.proofs.StatesOfRuns.{IsInTurn}
use Rattle.in_run.proofs.in_turn.run_in_turn.Given as goal

abbrev pub invariant-loop-stop : goal.invariant-loop-stop
invariant-loop-stop l = IsInTurn l.checked.program l.limits l.interactions l.machine

abbrev pub decreases-loop-stop : goal.decreases-loop-stop
decreases-loop-stop l = l.limits.limit - l.interactions
