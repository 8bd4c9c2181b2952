-- Runs of interactions, first in, first out. Which pair comes first is this project's own choice.
use Rattle.std.specs.Prelude.{ℕ, zero, suc}
use Rattle.in_reducer.specs.Machines.{MachineParts}
use Rattle.in_reducer.specs.Steps.{StepsAt}

-- a given number of interactions, each at the first pair: first in, first out
pub data Runs : MachineParts → ℕ → MachineParts → Type 0 where
  at_start : (m : MachineParts) → Runs m zero m
  then_step : (m n o : MachineParts) (k : ℕ) → Runs m k n → StepsAt n 0 o → Runs m (suc k) o
