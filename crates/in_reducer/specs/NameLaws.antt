-- Laws over reducers that differ in the numbers of their agents alone.
use Rattle.std.specs.Prelude.{◌≡◌, ◌≢◌, ◌+◌, ℕ, suc, IsSome, None}
use Rattle.in_arena.specs.declared.content.CellCounts.{CellCounts}
use Rattle.in_net.specs.Nets.{net_of}
use Rattle.in_check.specs.Programs.{Program}
use Rattle.in_reducer.specs.Machines.{MachineParts, parts_of}
use Rattle.in_reducer.specs.Reducers.{IsReducer}
use Rattle.in_reducer.specs.Runs.{Runs}
use Rattle.in_reducer.specs.Starts.{IsStart}
use Rattle.in_reducer.specs.Steps.{StepsAt}
use Rattle.in_reducer.specs.Same.{IsSameMachine, AreSame, StepsUpToNumbers, RunsUpToNumbers}

abbrev pub EachIsTheSame : Type 0
EachIsTheSame = (m : MachineParts) → AreSame m m

abbrev pub SameGoesThrough : Type 0
SameGoesThrough = (m n o : MachineParts) → AreSame m n → AreSame n o → AreSame m o

-- being the same up to numbers is an equivalence of reducers
pub record AreSameIsAnEquivalence : Type 0 where
  pub itself : EachIsTheSame
  pub back : (m n : MachineParts) → IsReducer m → AreSame m n → AreSame n m
  pub through : SameGoesThrough

-- a state that is the same as a reducer is one
abbrev pub SameAreReducers : Type 0
SameAreReducers = (m n : MachineParts) → IsReducer m → AreSame m n → IsReducer n

-- a start under any other numbers is a start
abbrev pub StartsCanBeRenamed : Type 0
StartsCanBeRenamed = (p : Program) (cells : CellCounts) (m n : MachineParts) → IsStart p cells m → AreSame m n → IsStart p cells n

-- there is a reducer under any numbers that keep its agents apart
abbrev pub ReducersCanBeRenamed : Type 0
ReducersCanBeRenamed = (m : MachineParts) (f : ℕ → ℕ) → IsReducer m →
    ((x y : ℕ) → IsSome ((net_of (parts_of m)).symbol x) → IsSome ((net_of (parts_of m)).symbol y) → f x ≡ f y → x ≡ y) → (n : MachineParts) × IsSameMachine f m n

-- the same interaction of two reducers that are the same up to numbers leads to two reducers that are the same in this way
abbrev pub StepsKeepSame : Type 0
StepsKeepSame = (m n o u : MachineParts) (i : ℕ) → IsReducer m → IsReducer n → AreSame m n → StepsAt m i o → StepsAt n i u → AreSame o u

-- .. and so do runs of as many interactions
abbrev pub RunsKeepSame : Type 0
RunsKeepSame = (m n o u : MachineParts) (k : ℕ) → IsReducer m → IsReducer n → AreSame m n → Runs m k o → Runs n k u → AreSame o u

-- so the result of an interaction up to numbers is determined up to numbers
abbrev pub StepsUpToNumbersAreSame : Type 0
StepsUpToNumbersAreSame = (m n o : MachineParts) (i : ℕ) → IsReducer m → StepsUpToNumbers m i n → StepsUpToNumbers m i o → AreSame n o

-- .. and so is that of a run up to numbers
abbrev pub RunsUpToNumbersAreSame : Type 0
RunsUpToNumbersAreSame = (m n o : MachineParts) (k : ℕ) → IsReducer m → RunsUpToNumbers m k n → RunsUpToNumbers m k o → AreSame n o

-- the result of an interaction, under any other numbers, is the result of an interaction of the reducer under some numbers
abbrev pub StepsCanBeRenamed : Type 0
StepsCanBeRenamed = (m n o : MachineParts) (i : ℕ) → IsReducer m → StepsAt m i n → AreSame n o → (s : MachineParts) × AreSame m s × StepsAt s i o

-- .. and so for a run
abbrev pub RunsCanBeRenamed : Type 0
RunsCanBeRenamed = (m n o : MachineParts) (k : ℕ) → IsReducer m → Runs m k n → AreSame n o → (s : MachineParts) × AreSame m s × Runs s k o

-- a run up to numbers, followed by an interaction up to numbers, is one run
abbrev pub RunsUpToNumbersTakeSteps : Type 0
RunsUpToNumbersTakeSteps = (m n o : MachineParts) (k : ℕ) → IsReducer m → RunsUpToNumbers m k n → StepsUpToNumbers n 0 o → RunsUpToNumbers m (suc k) o

-- two agents of a reducer can get any two numbers that it doesn't have, while all others keep theirs: so the cells of a pair can be used again for
-- new agents
abbrev pub PairsCanStandAside : Type 0
PairsCanStandAside = (m : MachineParts) (a b x y : ℕ) → a ≢ b → x ≢ y → (net_of (parts_of m)).symbol x ≡ None → (net_of (parts_of m)).symbol y ≡ None →
    (s : MachineParts) × (f : ℕ → ℕ) × IsSameMachine f m s × (f a ≡ x) × (f b ≡ y) × ((z : ℕ) → z ≢ a → z ≢ b → f z ≡ z)

-- two runs up to numbers, one after the other, are one run
abbrev pub RunsUpToNumbersGoOn : Type 0
RunsUpToNumbersGoOn = (m n o : MachineParts) (j k : ℕ) → IsReducer m → RunsUpToNumbers m j n → RunsUpToNumbers n k o → RunsUpToNumbers m (k + j) o
