-- A run that stops normally is at the only end of its program.
use Rattle.std.proofs.Common.{◌≡◌, ℕ, [], subst}
use Rattle.in_arena.specs.declared.content.CellCounts.{CellCounts}
use Rattle.in_limits.specs.declared.limits.Limits.{Limits}
use Rattle.in_run.specs.declared.stops.Stop.{Stop}
use Rattle.in_run.specs.declared.stops.Stop.TheVariants.{Normal}
use Rattle.in_reducer.specs.Machines.{MachineParts}
use Rattle.in_check.specs.Programs.{Program}
use Rattle.in_run.specs.Outcomes.{ReachesWith}
use Rattle.in_run.specs.Stops.{IsStop}
use Rattle.in_run.proofs.StatesOfRuns.{IsStateOfRun}
use Rattle.in_machine.specs.Texts.{text_of}
use Rattle.in_order.specs.Ends.{EndsOnce}
use Rattle.in_run.specs.Laws.{NormalOutcomesAreOne}
use Rattle.in_machine.proofs.Public.{normal_ends_are_one}

no_pair : (limit : ℕ) (m : MachineParts) (k : ℕ) (s : Stop) → IsStop limit m k s → s ≡ Normal → m.queue ≡ []
no_pair limit m k s h e = subst (IsStop limit m k) e h

reached_once : (p : Program) (cells : CellCounts) (k : ℕ) (m : MachineParts) → ReachesWith p cells k m → m.queue ≡ [] → EndsOnce p k (text_of m)
reached_once p cells k m h none = subst (λ (z : Program). EndsOnce z k (text_of m)) h.program (normal_ends_are_one m k h.machine h.reached none)

pub normal_outcomes_are_one : NormalOutcomesAreOne
normal_outcomes_are_one limits input p l o accepted runs normal =
    reached_once p l.cells o.interactions o.machine runs.0.0 (no_pair l.limit o.machine o.interactions o.stop runs.0.2 normal)

-- a run that is under way and stops normally is at the end
pub state_ended : (p : Program) (l : Limits) (m : MachineParts) (k : ℕ) → IsStateOfRun p l k m → (limit : ℕ) (s : Stop) → IsStop limit m k s → s ≡ Normal → EndsOnce p k (text_of m)
state_ended p l m k state limit s stop normal = reached_once p l.cells k m state.reaches (no_pair limit m k s stop normal)
