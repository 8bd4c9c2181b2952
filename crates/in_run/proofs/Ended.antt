-- The end of a run of an accepted program: it is a machine, its net is reached by as many interactions as were counted, and with one worker it is
-- one up to the numbers of its agents, and with any workers its stop is that of the machine and the count.
use Rattle.std.proofs.Common.{◌≡◌, ℕ, List, Ok, subst}
use Rattle.in_check.specs.Checking.{IsAccepted}
use Rattle.in_check.specs.Plain.{IsReachedBy}
use Rattle.in_check.specs.Programs.{Program}
use Rattle.in_limits.specs.declared.limits.Limits.{Limits}
use Rattle.in_run.specs.declared.running.Outcome.{Outcome}
use Rattle.in_machine.specs.Machines.{IsMachine}
use Rattle.in_reducer.specs.Machines.{plain_of}
use Rattle.in_run.specs.Outcomes.{RunsTo}
use Rattle.in_reducer.specs.Same.{AreSame}
use Rattle.in_run.specs.Laws.{OutcomesStopAlike, TurnsAreOne}
use Rattle.in_run.specs.Stops.{IsStop}
use Rattle.in_run.proofs.SameOutcome.{same_outcome, same_stop, stop_moved}
use Rattle.in_machine.proofs.Public.{same_start, start_machine}
use Rattle.in_syntax.specs.declared.text_limits.TextLimits.{TextLimits}

module _ (p : Program) (l : Limits) (o : Outcome) (h : RunsTo p l (Ok o)) where
  pub ended_reached : IsReachedBy (plain_of o.machine) o.interactions
  ended_reached = h.0.0.reached

  pub ended_machine : IsMachine o.machine
  ended_machine = h.0.0.machine

pub turns_alike : TurnsAreOne
turns_alike limits text p l o u accepted x y =
    same_outcome x.0 y.0 (start_machine limits text p accepted l.cells x.0 x.1 l.most) (start_machine limits text p accepted l.cells y.0 y.1 l.most) (same_start limits text p accepted l.cells x.0 y.0 x.1 y.1)
    l.limit o.machine u.machine o.interactions u.interactions o.stop u.stop x.2 y.2

pub ended_alike : (limits : TextLimits) (text : List ℕ) (p : Program) → IsAccepted limits text p → (l : Limits) → l.workers ≡ 1 → (o u : Outcome) → RunsTo p l (Ok o) → RunsTo p l (Ok u)
    → AreSame o.machine u.machine × (o.interactions ≡ u.interactions) × (o.stop ≡ u.stop)
ended_alike limits text p accepted l one o u h g = turns_alike limits text p l o u accepted (h.1 one) (g.1 one)

pub ended_so : OutcomesStopAlike
ended_so p l o u h g (f, same) as_many =
    same_stop u.machine (ended_machine p l u g) l.limit u.interactions o.stop u.stop
    (subst (λ (k : ℕ). IsStop l.limit u.machine k o.stop) as_many (stop_moved f o.machine u.machine same l.limit o.interactions o.stop h.0.2)) g.0.2
