-- Laws over runs whose first pairs are chosen.
use Rattle.std.specs.Prelude.{◌≡◌, ◌≤◌, ℕ, List, Ok, Err}
use Rattle.in_arena.specs.declared.content.CellClass.{CellClass}
use Rattle.in_arena.specs.declared.content.CellCounts.{CellCounts}
use Rattle.in_check.specs.Checking.{IsAccepted}
use Rattle.in_check.specs.Programs.{Program}
use Rattle.in_reducer.specs.Limiting.{AreAllowed}
use Rattle.in_reducer.specs.Machines.{MachineParts}
use Rattle.in_reducer.specs.Same.{AreSame}
use Rattle.in_reducer.specs.Starts.{IsStart}
use Rattle.in_machine.specs.Machines.{IsMachine}
use Rattle.in_machine.specs.Starts.{IsNoStart}
use Rattle.in_machine.specs.declared.starting.StartFault.TheVariants as start
use Rattle.in_chosen_runs.specs.Choosing.{RunsAsChosen}
use Rattle.in_chosen_runs.specs.declared.running.Chosen.{Chosen}
use Rattle.in_syntax.specs.declared.text_limits.TextLimits.{TextLimits}

-- an accepted program, choices and limits lead to one end, up to the numbers of agents
abbrev pub ChosenRunsAreOne : Type 0
ChosenRunsAreOne = (limits : TextLimits) (text : List ℕ) (p : Program) (choices : List ℕ) (limit : ℕ) (cells : CellCounts) (o u : Chosen) → IsAccepted limits text p → AreAllowed cells →
    RunsAsChosen p choices limit cells (Ok o) → RunsAsChosen p choices limit cells (Ok u) →
    (o.chosen ≡ u.chosen) × (o.further ≡ u.further) × AreSame o.machine u.machine

-- a program that is refused as too large for its cells has no first machine, and the class and both numbers are determined
abbrev pub StartsAreRefusedOnce : Type 0
StartsAreRefusedOnce = (p : Program) (cells : CellCounts) (c : CellClass) (need free : ℕ) → IsNoStart p cells (start.Full c need free) → ((m : MachineParts) → IsStart p cells m → ⊥)
    × ((d : CellClass) (more less : ℕ) → IsNoStart p cells (start.Full d more less) → (c ≡ d) × (need ≡ more) × (free ≡ less))

-- .. nor such a run
abbrev pub ChosenRunsAreRefusedOnce : Type 0
ChosenRunsAreRefusedOnce = (p : Program) (choices : List ℕ) (limit : ℕ) (cells : CellCounts) (c : CellClass) (need free : ℕ) → RunsAsChosen p choices limit cells (Err (start.Full c need free)) →
    ((o : Chosen) → RunsAsChosen p choices limit cells (Ok o) → ⊥)
    × ((d : CellClass) (more less : ℕ) → RunsAsChosen p choices limit cells (Err (start.Full d more less)) → (c ≡ d) × (need ≡ more) × (free ≡ less))

-- the end of such a run is a machine
abbrev pub ChosenRunsAreMachines : Type 0
ChosenRunsAreMachines = (limits : TextLimits) (text : List ℕ) (p : Program) (choices : List ℕ) (limit : ℕ) (cells : CellCounts) (o : Chosen) → IsAccepted limits text p → AreAllowed cells → RunsAsChosen p choices limit cells (Ok o) → IsMachine o.machine
