-- The stops of a run. They, and their order, are this project's own choice.
use Rattle.std.specs.Prelude.{◌≡◌, ◌≢◌, ◌<◌, ◌≤◌, ℕ, [], length}
use Rattle.in_reducer.specs.Machines.{MachineParts}
use Rattle.in_reducer.specs.Steps.{HasRoomAt, IsShortAt}
use Rattle.in_reducer.specs.Runs.{Runs}
use Rattle.in_run.specs.declared.stops.Stop.{Stop}
use Rattle.in_run.specs.declared.stops.Stop.TheVariants.{Normal, Limit, Full}

-- no pair is left; as many interactions were done as are allowed; the first pair needs more cells than are free. Each of these stops holds
-- only if none before it does
abbrev pub IsStop : ℕ → MachineParts → ℕ → Stop → Type 0
IsStop limit m k Normal = m.queue ≡ []
IsStop limit m k Limit = (m.queue ≢ []) × (k ≡ limit)
IsStop limit m k (Full c need free) = (m.queue ≢ []) × (k < limit) × IsShortAt m 0 c need free

-- none of these stops holds
abbrev pub GoesOn : ℕ → MachineParts → ℕ → Type 0
GoesOn limit m k = (0 < length m.queue) × (k < limit) × HasRoomAt m 0

-- no pair of the queue has the cells that it needs
abbrev pub NoneHasRoom : MachineParts → Type 0
NoneHasRoom m = (i : ℕ) → i < length m.queue → HasRoomAt m i → ⊥

-- the outcome of a run from this machine within `limit` interactions
pub record IsOutcome (start : MachineParts) (limit : ℕ) (m : MachineParts) (k : ℕ) (s : Stop) : Type 0 where
  pub run : Runs start k m
  pub within : k ≤ limit
  pub stop : IsStop limit m k s
