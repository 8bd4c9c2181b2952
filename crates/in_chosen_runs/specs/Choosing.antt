-- A run whose first pairs are chosen. Lafont 1990 leaves open which pair comes next: here a caller chooses.
use Rattle.std.specs.Prelude.{◌≡◌, ◌⊎◌, ◌<◌, ◌≤◌, ℕ, List, [], ◌∷◌, length, take, slice_get, Some, Result, Ok, Err}
use Rattle.in_arena.specs.declared.content.CellCounts.{CellCounts}
use Rattle.in_check.specs.Programs.{Program}
use Rattle.in_reducer.specs.Machines.{MachineParts}
use Rattle.in_reducer.specs.Starts.{IsStart}
use Rattle.in_reducer.specs.Steps.{HasRoomAt, StepsAt}
use Rattle.in_reducer.specs.Same.{RunsUpToNumbers}
use Rattle.in_machine.specs.Starts.{IsNoStart}
use Rattle.in_machine.specs.Taking.{TakesNoFirst}
use Rattle.in_machine.specs.declared.starting.StartFault.{StartFault}
use Rattle.in_chosen_runs.specs.declared.running.Chosen.{Chosen}

-- the interactions of the pairs of these numbers in the queue, one after another
abbrev pub StepsBy : MachineParts → List ℕ → MachineParts → Type 0
StepsBy m [] after = after ≡ m
StepsBy m (i ∷ choices) after = (next : MachineParts) × StepsAt m i next × StepsBy next choices after

-- there is no pair of that number, or the cells for it aren't free
abbrev pub CannotStep : MachineParts → ℕ → Type 0
CannotStep m i = (length m.queue ≤ i) ⊎ (HasRoomAt m i → ⊥)

-- from a start the first choices are done, and then interactions first in, first out. Some choices are left only if the next one is impossible, and
-- then nothing comes after them; fewer than allowed come after them only if none is possible
pub record IsAsChosen (p : Program) (choices : List ℕ) (limit : ℕ) (cells : CellCounts) (o : Chosen) : Type 0 where
  pub start : MachineParts
  pub is_start : IsStart p cells start
  pub middle : MachineParts
  pub most : o.chosen ≤ length choices
  pub by_choice : StepsBy start (take o.chosen choices) middle
  pub left : (c : ℕ) → slice_get choices o.chosen ≡ Some c → CannotStep middle c × (o.further ≡ 0)
  pub in_turn : RunsUpToNumbers middle o.further o.machine
  pub few : o.further ≤ limit
  pub fewer : o.chosen ≡ length choices → o.further < limit → TakesNoFirst o.machine

abbrev pub RunsAsChosen : Program → List ℕ → ℕ → CellCounts → Result Chosen StartFault → Type 0
RunsAsChosen p choices limit cells (Ok o) = IsAsChosen p choices limit cells o
RunsAsChosen p choices limit cells (Err f) = IsNoStart p cells f
