-- Laws on gathered results and on rounds.
use Rattle.std.specs.Prelude.{◌≡◌, ◌<◌, ◌≤◌, ◌+◌, ◌-◌, ℕ, List, [], ◌∷◌, Option, Result, Ok, Some}
use Rattle.in_arena.specs.Arenas.{ArenaView}
use Rattle.in_machine.specs.Machines.{IsMachine}
use Rattle.in_reducer.specs.Same.{AreSame}
use Rattle.in_reducer.specs.Machines.{MachineParts}
use Rattle.in_reducer.specs.Runs.{Runs}
use Rattle.in_rounds.specs.Dones.{DoneParts}
use Rattle.in_rounds.specs.Gathers.{GatherParts, Puts, TakesDone, bags_of}
use Rattle.in_rounds.specs.Holding.{Returns, holders}
use Rattle.in_rounds.specs.Lending.{AreLentOut}
use Rattle.in_rounds.specs.Rounds.{IsFront, IsRound}
use Rattle.in_rounds.specs.declared.gather.Why.{Why}

-- ---- no cell is lost

-- two lists of bags together have the cells of a third one
abbrev pub Shares : List ArenaView → List ArenaView → List ArenaView → Type 0
Shares bs cs both = (n : ℕ) → holders n both ≡ holders n bs + holders n cs

abbrev pub PuttingLosesNone : Type 0
PuttingLosesNone = (g h : GatherParts) (d : DoneParts) (u : Unit {0}) → Puts g d (Ok u) h → Shares (d.placed.placed.bag ∷ []) (bags_of g.slots) (bags_of h.slots)

abbrev pub TakingLosesNone : Type 0
TakingLosesNone = (g h : GatherParts) (job : ℕ) (d : DoneParts) → TakesDone g job (Some d) h → Shares (d.placed.placed.bag ∷ []) (bags_of h.slots) (bags_of g.slots)

-- ---- one result

abbrev pub PutsAreOne : Type 0
PutsAreOne = (g h i : GatherParts) (d : DoneParts) (r s : Result (Unit {0}) (DoneParts × Why)) → Puts g d r h → Puts g d s i → (r ≡ s) × (h ≡ i)

abbrev pub TakesAreOne : Type 0
TakesAreOne = (g h i : GatherParts) (job : ℕ) (r s : Option DoneParts) → TakesDone g job r h → TakesDone g job s i → (r ≡ s) × (h ≡ i)

-- .. and the bags before and after, and the arena, determine the arena to which cells are given back
abbrev pub ReturnsAreOne : Type 0
ReturnsAreOne = (before after : List ArenaView) (a new other : ArenaView) → Returns before after a new → Returns before after a other → new ≡ other

-- .. and the arena and the bags that are lent determine the arena after. (Which cells are lent is open.)
abbrev pub LentArenasAreOne : Type 0
LentArenasAreOne = (bs : List ArenaView) (a new other : ArenaView) → AreLentOut bs a new → AreLentOut bs a other → new ≡ other

-- ---- rounds

-- taking the first pairs in turn, at least one, until there are no more jobs or no room for the next one, is a round
abbrev pub RoundsEnd : Type 0
RoundsEnd = (m n : MachineParts) (budget k : ℕ) → IsMachine m → IsFront m budget n k → IsRound m budget n k

-- rounds of machines that are the same up to numbers, with one budget, have one count, and leave machines that are the same
abbrev pub RoundsAreSame : Type 0
RoundsAreSame = (start other m n : MachineParts) (budget j k : ℕ) → IsMachine start → IsMachine other → AreSame start other → IsRound start budget m j → IsRound other budget n k →
    AreSame m n × (j ≡ k)

-- a round after a run is a longer run, within its limit
abbrev pub RoundsRunOn : Type 0
RoundsRunOn = (start m n : MachineParts) (limit j k : ℕ) → Runs start j m → j < limit → IsRound m (limit - j) n k → Runs start (k + j) n × (k + j ≤ limit) × (j < k + j)
