-- Laws on the results of a reducer's calls: each has one.
use Rattle.std.specs.Prelude.{◌≡◌, ◌⊎◌, ◌<◌, ◌≤◌, ℕ, []}
use Rattle.in_syntax.specs.declared.symbol_no.SymbolNo.{SymbolNo}
use Rattle.in_compile.specs.declared.cells.Need.{Need}
use Rattle.in_reducer.specs.Cutting.{CutsAt, JoinsLast}
use Rattle.in_reducer.specs.Machines.{MachineParts}
use Rattle.in_reducer.specs.Reducers.{IsReducer}
use Rattle.in_reducer.specs.Same.{AreSame, IsSameMachine, RunsUpToNumbers}
use Rattle.in_reducer.specs.Steps.{HasRoomAt, NeedsAt}
use Rattle.in_reducer.specs.Templates.{HasHeadsAt}

-- a pair has one need
abbrev pub NeedsAreOne : Type 0
NeedsAreOne = (m : MachineParts) (i : ℕ) (x y : Need) → IsReducer m → NeedsAt m i x → NeedsAt m i y → x ≡ y

-- .. and its symbols are two, in one order
abbrev pub HeadsAreOne : Type 0
HeadsAreOne = (m : MachineParts) (i : ℕ) (g h : SymbolNo × SymbolNo) → HasHeadsAt m i g → HasHeadsAt m i h → g ≡ h

-- a cut at a place of an agent has one result, in which agents have the same numbers
abbrev pub CutsAreOne : Type 0
CutsAreOne = (m n o : MachineParts) (c i : ℕ) → CutsAt m c i n → CutsAt m c i o → IsSameMachine (λ y. y) n o

-- .. and so has joining the last two free ends: the new pair, if there is one, is determined
abbrev pub JointsAreOne : Type 0
JointsAreOne = (m n o : MachineParts) → IsReducer m → IsReducer n → IsReducer o → JoinsLast m n → JoinsLast m o → IsSameMachine (λ y. y) n o

-- no pair is left, or the cells that the first one needs aren't free
abbrev pub TakesNoFirst : MachineParts → Type 0
TakesNoFirst m = (m.queue ≡ []) ⊎ (HasRoomAt m 0 → ⊥)

-- interactions of the first pairs, at most as many as requested, and fewer only if no further one is possible, have one number, and lead to one
-- reducer up to numbers
abbrev pub FirstStepsAreOne : Type 0
FirstStepsAreOne = (m n o : MachineParts) (most j k : ℕ) → IsReducer m → RunsUpToNumbers m j n → j ≤ most → (j < most → TakesNoFirst n) →
    RunsUpToNumbers m k o → k ≤ most → (k < most → TakesNoFirst o) → (j ≡ k) × AreSame n o
