-- The next interactions of a run.
use Rattle.std.specs.Prelude.{◌+◌, ℕ, zero, suc}
use Rattle.in_reducer.specs.Machines.{MachineParts}
use Rattle.in_reducer.specs.Steps.{StepsAt}
use Rattle.in_reducer.specs.Same.{AreSame}
use Rattle.in_machine.specs.Phases.{IsPhase}

-- a given number of interactions, one after another, each at any pair of the queue, and phases; between them agents may get other numbers
pub data RunsAnyhow : MachineParts → ℕ → MachineParts → Type 0 where
  no_step : (m : MachineParts) → RunsAnyhow m zero m
  then_any : (m n o : MachineParts) (k i : ℕ) → RunsAnyhow m k n → StepsAt n i o → RunsAnyhow m (suc k) o
  then_phase : (m n o : MachineParts) (k j : ℕ) → RunsAnyhow m k n → IsPhase n j o → RunsAnyhow m (j + k) o
  then_renamed : (m n o : MachineParts) (k : ℕ) → RunsAnyhow m k n → AreSame n o → RunsAnyhow m k o
