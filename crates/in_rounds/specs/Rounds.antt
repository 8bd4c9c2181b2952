-- Several interactions by several workers at once: they are those of the first pairs of the queue, one after another. This project's own
-- choice.
use Rattle.std.specs.Prelude.{◌≡◌, ◌⊎◌, ◌≤◌, ℕ, min, length}
use Rattle.in_machine.specs.Together.{HasRoomFor}
use Rattle.in_reducer.specs.Machines.{MachineParts}
use Rattle.in_reducer.specs.Runs.{Runs}
use Rattle.in_reducer.specs.Steps.{HasRoomAt}

-- the number of pairs for a round of at most `budget` interactions
abbrev pub jobs_of : MachineParts → ℕ → ℕ
jobs_of m budget = min (length m.queue) budget

-- the first pairs of the queue in turn, at least one, until there are no more jobs, or no room for the next one
pub record IsFront (m : MachineParts) (budget : ℕ) (after : MachineParts) (k : ℕ) : Type 0 where
  pub run : Runs m k after
  pub some : 1 ≤ k
  pub most : k ≤ jobs_of m budget
  pub ends : (k ≡ jobs_of m budget) ⊎ (HasRoomAt after 0 → ⊥)

-- the interactions of a round: of the first k pairs of the queue in turn, until no job was left, or no room for the next one; k is all jobs if
-- there is room for them together
pub record IsRound (m : MachineParts) (budget : ℕ) (after : MachineParts) (k : ℕ) : Type 0 where
  pub front : IsFront m budget after k
  pub all : HasRoomFor m (jobs_of m budget) → k ≡ jobs_of m budget
