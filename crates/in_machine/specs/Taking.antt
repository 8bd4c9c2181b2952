-- Interactions of the first pairs, one after another: their end, and that they have one result. This project's own choice.
use Rattle.std.specs.Prelude.{◌≡◌, ◌<◌, ◌≤◌, ℕ}
use Rattle.in_reducer.specs.Machines.{MachineParts}
pub use Rattle.in_reducer.specs.ResultLaws.{TakesNoFirst}
use Rattle.in_reducer.specs.Same.{AreSame, RunsUpToNumbers}
use Rattle.in_machine.specs.Machines.{IsMachine}

-- the number of interactions (at most as many as requested, and fewer only if no further one is possible) is determined, and they lead to one machine
-- up to numbers
abbrev pub FirstsTakenAreOne : Type 0
FirstsTakenAreOne = (m n o : MachineParts) (most j k : ℕ) → IsMachine m → RunsUpToNumbers m j n → j ≤ most → (j < most → TakesNoFirst n) →
    RunsUpToNumbers m k o → k ≤ most → (k < most → TakesNoFirst o) → (j ≡ k) × AreSame n o
