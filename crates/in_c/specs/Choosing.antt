-- The view of a run whose first pairs a caller chooses.
use Rattle.std.specs.Prelude.{◌≡◌, ◌≢◌, ◌⊎◌, ◌<◌, ◌≤◌, ℕ, List, [], length, count_by, is_some, slice_get, Option, Some, None, Ok}
use Rattle.in_syntax.specs.declared.faults.Refusal.{Refusal}
use Rattle.in_syntax.specs.declared.text_limits.TextLimits.{TextLimits}
use Rattle.in_check.specs.Checking.{IsAccepted, IsRefused}
use Rattle.in_check.specs.Programs.{Program}
use Rattle.in_limits.specs.AllowedLimits.{AreLimits}
use Rattle.in_limits.specs.declared.limits.Limits.{Limits}
use Rattle.in_arena.specs.declared.content.CellClass.{CellClass}
use Rattle.in_reducer.specs.Machines.{MachineParts}
use Rattle.in_machine.specs.Starts.{DoesNotFit}
use Rattle.in_machine.specs.Texts.{text_of}
use Rattle.in_chosen_runs.specs.declared.running.Chosen.{Chosen}
use Rattle.in_chosen_runs.specs.Choosing.{RunsAsChosen}
use Rattle.in_program.specs.declared.acting.Status.{Status}
use Rattle.in_program.specs.Acting.{memory_status, status}
use Rattle.in_c.specs.declared.choosing.RunNumbers.{RunNumbers}
use Rattle.in_c.specs.declared.choosing.Shown.{Shown}

abbrev pub no_run : RunNumbers
no_run = record { chosen = 0; further = 0; pairs = 0; agents = 0 }

-- the numbers of choices done, of interactions after them, of pairs and of agents
abbrev pub run_numbers : Chosen → RunNumbers
run_numbers o = record { chosen = o.chosen; further = o.further; pairs = length o.machine.queue; agents = count_by is_some o.machine.agents }

-- these bytes, these numbers and this status are shown
abbrev pub AreGivenOut : Shown → List ℕ → RunNumbers → Status → Type 0
AreGivenOut a bytes n s = (a.bytes.items ≡ bytes) × (a.numbers ≡ n) × (a.status ≡ s)

-- the status if the next choice is of this number: its pair has no room, or there is no such pair
abbrev pub IsEndAt : MachineParts → ℕ → Status → Type 0
IsEndAt m c s = ((c < length m.queue) × (s ≡ status 4)) ⊎ ((length m.queue ≤ c) × (s ≡ status 2))

-- .. after all choices: no pair is left; there were as many interactions as are allowed; or the first pair has no room
pub data IsEndAfter (o : Chosen) (limit : ℕ) (s : Status) : Type 0 where
  normal : length o.machine.queue ≡ 0 → s ≡ status 0 → IsEndAfter o limit s
  limited : length o.machine.queue ≢ 0 → o.further ≡ limit → s ≡ status 3 → IsEndAfter o limit s
  short : length o.machine.queue ≢ 0 → o.further ≢ limit → s ≡ status 4 → IsEndAfter o limit s

abbrev pub IsEndBy : Option ℕ → ℕ → Chosen → Status → Type 0
IsEndBy (Some c) limit o s = IsEndAt o.machine c s
IsEndBy None limit o s = IsEndAfter o limit s

abbrev pub EndsSo : List ℕ → ℕ → Chosen → Status → Type 0
EndsSo choices limit o s = IsEndBy (slice_get choices o.chosen) limit o s

-- the net, the numbers and the status at the end of the run, or that memory ran out
abbrev pub ShowsRun : List ℕ → ℕ → Chosen → Shown → Type 0
ShowsRun choices limit o a = ((s : Status) × EndsSo choices limit o s × AreGivenOut a (text_of o.machine) (run_numbers o) s) ⊎ AreGivenOut a [] no_run memory_status

-- .. of a program: its end, or that its net doesn't fit the cells
abbrev pub ShowsProgram : Program → List ℕ → Limits → Shown → Type 0
ShowsProgram p choices l a =
    ((o : Chosen) × RunsAsChosen p choices l.limit l.cells (Ok o) × ShowsRun choices l.limit o a)
    ⊎ (((c : CellClass) × (need : ℕ) × (free : ℕ) × DoesNotFit p l.cells c need free × AreGivenOut a [] no_run (status 4)) ⊎ AreGivenOut a [] no_run memory_status)

-- .. of a text: of its program, or that it is refused
abbrev pub ShowsText : TextLimits → List ℕ → List ℕ → Limits → Shown → Type 0
ShowsText limits text choices l a =
    ((p : Program) × IsAccepted limits text p × ShowsProgram p choices l a) ⊎ (((r : Refusal) × IsRefused limits text r × AreGivenOut a [] no_run (status 1)) ⊎ AreGivenOut a [] no_run memory_status)

-- .. within these numbers; nothing, with the status of wrong words, if one of them is out of range
abbrev pub IsRunBy : TextLimits → List ℕ → List ℕ → ℕ → ℕ → Shown → Type 0
IsRunBy limits text choices limit cells a = ((l : Limits) × AreLimits 1 limit cells (Some l) × ShowsText limits text choices l a) ⊎ (AreLimits 1 limit cells None × AreGivenOut a [] no_run (status 2))
