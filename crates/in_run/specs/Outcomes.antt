-- The outcome of `run`.
use Rattle.std.specs.Prelude.{◌≡◌, ◌≢◌, ◌≤◌, ◌⊎◌, ℕ, Result, Ok, Err}
use Rattle.in_arena.specs.declared.content.CellCounts.{CellCounts}
use Rattle.in_check.specs.Plain.{IsReachedBy}
use Rattle.in_check.specs.Programs.{Program}
use Rattle.in_limits.specs.declared.limits.Limits.{Limits}
use Rattle.in_run.specs.declared.running.Outcome.{Outcome}
use Rattle.in_run.specs.declared.running.RunFault.{RunFault}
use Rattle.in_run.specs.declared.running.RunFault.TheVariants.{Start, Memory}
use Rattle.in_reducer.specs.Machines.{MachineParts, HasCells, plain_of}
use Rattle.in_reducer.specs.Starts.{IsStart}
use Rattle.in_machine.specs.Machines.{IsMachine}
use Rattle.in_machine.specs.Starts.{IsNoStart}
use Rattle.in_machine.specs.declared.starting.StartFault.{StartFault}
use Rattle.in_run.specs.declared.stops.Stop.TheVariants.{Limit}
use Rattle.in_run.specs.Stops.{IsOutcome, IsStop, NoneHasRoom}

-- ---- in any order

-- k interactions of the program, from a start with that many cells of each class: they come in any order, and the program reaches the
-- net by exactly as many
pub record ReachesWith (p : Program) (cells : CellCounts) (k : ℕ) (m : MachineParts) : Type 0 where
  pub start : (s : MachineParts) × IsStart p cells s
  pub machine : IsMachine m
  pub program : m.program ≡ p
  pub counted : HasCells cells m
  pub reached : IsReachedBy (plain_of m) k

-- a property of a run of a program within limits, for each way of ending
abbrev pub RunLaw : Type 1
RunLaw = Program → Limits → Result Outcome RunFault → Type 0

-- the outcome of a run within the limits, or no start; no run is refused after its start
abbrev pub RunsInAnyOrder : RunLaw
RunsInAnyOrder p l (Ok o) = ReachesWith p l.cells o.interactions o.machine × (o.interactions ≤ l.limit) × IsStop l.limit o.machine o.interactions o.stop
RunsInAnyOrder p l (Err (Start f)) = IsNoStart p l.cells f
RunsInAnyOrder p l (Err (Memory m k)) = ⊥

-- ---- in turn

-- the same of interactions that are first in, first out
abbrev pub RunsInTurn : RunLaw
RunsInTurn p l (Ok o) = (start : MachineParts) × IsStart p l.cells start × IsOutcome start l.limit o.machine o.interactions o.stop
RunsInTurn p l (Err (Start f)) = IsNoStart p l.cells f
RunsInTurn p l (Err (Memory m k)) = ⊥

-- ---- as long as a pair has room

-- unless it stops at its limit, it stops where no pair of the queue has room
abbrev pub GoesOnToTheEnd : RunLaw
GoesOnToTheEnd p l (Ok o) = o.stop ≢ Limit → NoneHasRoom o.machine
GoesOnToTheEnd p l (Err f) = Unit {0}

-- ---- by the limits

-- how several workers share the interactions is open, and so is their order; one worker does them in turn; and unless they are done in turn, the
-- run goes on as long as a pair has room
abbrev pub RunsTo : RunLaw
RunsTo p l r = RunsInAnyOrder p l r × (l.workers ≡ 1 → RunsInTurn p l r) × (RunsInTurn p l r ⊎ GoesOnToTheEnd p l r)

-- the result of a run that is refused, if at all, at its start
abbrev pub at_start : Result Outcome StartFault → Result Outcome RunFault
at_start (Ok o) = Ok o
at_start (Err f) = Err (Start f)
