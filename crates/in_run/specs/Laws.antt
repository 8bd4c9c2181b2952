-- Laws over runs and their outcomes.
use Rattle.std.specs.Prelude.{◌≡◌, ℕ, List, Result, Ok}
use Rattle.in_check.specs.Checking.{IsAccepted}
use Rattle.in_check.specs.Plain.{IsReachedBy}
use Rattle.in_check.specs.Programs.{Program}
use Rattle.in_order.specs.Ends.{EndsOnce}
use Rattle.in_limits.specs.declared.limits.Limits.{Limits}
use Rattle.in_run.specs.declared.running.Outcome.{Outcome}
use Rattle.in_run.specs.declared.running.RunFault.{RunFault}
use Rattle.in_run.specs.declared.stops.Stop.{Stop}
use Rattle.in_run.specs.declared.stops.Stop.TheVariants.{Normal}
use Rattle.in_reducer.specs.Machines.{MachineParts, plain_of}
use Rattle.in_machine.specs.Machines.{IsMachine}
use Rattle.in_run.specs.Outcomes.{RunsInTurn, RunsTo}
use Rattle.in_run.specs.Stops.{IsStop, IsOutcome}
use Rattle.in_reducer.specs.Same.{AreSame}
use Rattle.in_machine.specs.Texts.{text_of}
use Rattle.in_syntax.specs.declared.text_limits.TextLimits.{TextLimits}

-- a machine stops in one way, after a given number of interactions within a limit
abbrev pub StopsAreOne : Type 0
StopsAreOne = (m : MachineParts) (limit k : ℕ) (s t : Stop) → IsMachine m → IsStop limit m k s → IsStop limit m k t → s ≡ t

-- .. and machines that are the same up to numbers stop alike
abbrev pub StopsAreSame : Type 0
StopsAreSame = (m n : MachineParts) (limit k : ℕ) (s : Stop) → AreSame m n → IsStop limit m k s → IsStop limit n k s

-- machines that are the same up to numbers have one outcome within a limit, up to numbers
abbrev pub OutcomesAreSame : Type 0
OutcomesAreSame = (start other : MachineParts) (limit : ℕ) (m n : MachineParts) (j k : ℕ) (s t : Stop) → IsMachine start → IsMachine other → AreSame start other →
    IsOutcome start limit m j s → IsOutcome other limit n k t → AreSame m n × (j ≡ k) × (s ≡ t)

-- a run's outcome is a machine
abbrev pub OutcomesAreMachines : Type 0
OutcomesAreMachines = (limits : TextLimits) (text : List ℕ) (p : Program) (l : Limits) (o : Outcome) → IsAccepted limits text p → RunsTo p l (Ok o) → IsMachine o.machine

-- the net of a run's outcome is reached by exactly as many interactions as were counted
abbrev pub OutcomesAreReached : Type 0
OutcomesAreReached = (limits : TextLimits) (text : List ℕ) (p : Program) (l : Limits) (o : Outcome) → IsAccepted limits text p → RunsTo p l (Ok o) → IsReachedBy (plain_of o.machine) o.interactions

-- interactions in turn may be done by any number of workers
abbrev pub TurnsAreAllowed : Type 0
TurnsAreAllowed = (limits : TextLimits) (text : List ℕ) (p : Program) (l : Limits) (r : Result Outcome RunFault) → IsAccepted limits text p → RunsInTurn p l r → RunsTo p l r

-- interactions in turn of an accepted program within limits have one outcome, up to the numbers of agents, with any number of workers
abbrev pub TurnsAreOne : Type 0
TurnsAreOne = (limits : TextLimits) (text : List ℕ) (p : Program) (l : Limits) (o u : Outcome) → IsAccepted limits text p → RunsInTurn p l (Ok o) → RunsInTurn p l (Ok u) →
    AreSame o.machine u.machine × (o.interactions ≡ u.interactions) × (o.stop ≡ u.stop)

-- with one worker an accepted program within limits has one outcome, up to the numbers of agents
abbrev pub ProgramsEndAlike : Type 0
ProgramsEndAlike = (limits : TextLimits) (text : List ℕ) (p : Program) (l : Limits) (o u : Outcome) → IsAccepted limits text p → l.workers ≡ 1 → RunsTo p l (Ok o) → RunsTo p l (Ok u) →
    AreSame o.machine u.machine × (o.interactions ≡ u.interactions) × (o.stop ≡ u.stop)

-- a run that stops as `Normal` has reached the only end of its program, with any workers and limits
abbrev pub NormalOutcomesAreOne : Type 0
NormalOutcomesAreOne = (limits : TextLimits) (text : List ℕ) (p : Program) (l : Limits) (o : Outcome) → IsAccepted limits text p → RunsTo p l (Ok o) → o.stop ≡ Normal → EndsOnce p o.interactions (text_of o.machine)

-- with any workers, runs of a program within limits that end at machines which are the same up to numbers, after as many interactions, have one stop
abbrev pub OutcomesStopAlike : Type 0
OutcomesStopAlike = (p : Program) (l : Limits) (o u : Outcome) → RunsTo p l (Ok o) → RunsTo p l (Ok u) → AreSame o.machine u.machine → o.interactions ≡ u.interactions → o.stop ≡ u.stop
