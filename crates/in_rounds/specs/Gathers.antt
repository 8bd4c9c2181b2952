-- Results of jobs: the state of each job of a list, and the changes by the calls.
use Rattle.std.specs.Prelude.{◌≡◌, ◌⊎◌, ℕ, List, [], ◌∷◌, length, replicate, slice_get, slice_set, Option, Some, None, Result, Ok, Err}
use Rattle.in_syntax.specs.declared.symbol_no.SymbolNo.{SymbolNo}
use Rattle.in_arena.specs.Arenas.{ArenaView}
use Rattle.in_rounds.specs.declared.gather.JobState.{JobState}
use Rattle.in_rounds.specs.declared.gather.JobState.TheVariants.{Fresh, Kept, Taken}
use Rattle.in_rounds.specs.declared.gather.Why.{Why}
use Rattle.in_rounds.specs.declared.gather.Why.TheVariants.{Double, Stranger}
use Rattle.in_rounds.specs.Dones.{DoneParts}

-- ---- the kept results

-- the symbols of each job's pair, and the state of each job
pub record GatherParts : Type 0 where
  pub jobs : List (SymbolNo × SymbolNo)
  pub slots : List JobState

-- the list that was lent, without a result
abbrev pub new_gather : List (SymbolNo × SymbolNo) → GatherParts
new_gather jobs = record { jobs = jobs; slots = replicate (length jobs) Fresh }

-- the cells of the results that were put and not taken
abbrev pub bags_of : List JobState → List ArenaView
bags_of [] = []
bags_of (Fresh ∷ slots) = bags_of slots
bags_of (Kept d ∷ slots) = d.placed.placed.bag ∷ bags_of slots
bags_of (Taken ∷ slots) = bags_of slots

-- the list has a job of the result's number with its symbols
abbrev pub HasJob : GatherParts → DoneParts → Type 0
HasJob g d = slice_get g.jobs d.job ≡ Some d.heads

-- no result was put for this job, which is in the list
abbrev pub IsFreshJob : GatherParts → ℕ → Type 0
IsFreshJob g job = slice_get g.slots job ≡ Some Fresh

-- the result that was put for this job is kept, or was taken
abbrev pub WasPut : GatherParts → ℕ → Type 0
WasPut g job = ((d : DoneParts) × (slice_get g.slots job ≡ Some (Kept d))) ⊎ (slice_get g.slots job ≡ Some Taken)

abbrev pub with_slot : GatherParts → ℕ → JobState → GatherParts
with_slot g job s = record { jobs = g.jobs; slots = slice_set g.slots job s }

-- ---- the changes by the calls

-- the reason why a result isn't kept: the list has no such job, which is tested first; or a result of that job was put before
abbrev pub IsPutRefused : GatherParts → DoneParts → Why → Type 0
IsPutRefused g d Stranger = HasJob g d → ⊥
IsPutRefused g d Double = HasJob g d × WasPut g d.job

-- a result is kept if the list has its job and no result of that job was put before; otherwise it comes back, and nothing changes
abbrev pub Puts : GatherParts → DoneParts → Result (Unit {0}) (DoneParts × Why) → GatherParts → Type 0
Puts old d (Ok _) new = HasJob old d × IsFreshJob old d.job × (new ≡ with_slot old d.job (Kept d))
Puts old d (Err e) new = (e.0 ≡ d) × IsPutRefused old d e.1 × (new ≡ old)

-- the kept result of that job is taken, and the job counts as put; or none is kept, and nothing changes
abbrev pub TakesDone : GatherParts → ℕ → Option DoneParts → GatherParts → Type 0
TakesDone old job (Some d) new = (slice_get old.slots job ≡ Some (Kept d)) × (new ≡ with_slot old job Taken)
TakesDone old job None new = ((d : DoneParts) → slice_get old.slots job ≡ Some (Kept d) → ⊥) × (new ≡ old)
