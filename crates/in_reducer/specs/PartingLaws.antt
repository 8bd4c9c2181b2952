-- Laws on reducers that are reduced, cut, split and glued.
use Rattle.std.specs.Prelude.{◌≡◌, ◌⊎◌, ◌+◌, ◌<◌, ◌≤◌, ℕ, zero, suc, List, Some, length, slice_get}
use Rattle.in_arena.specs.declared.content.CellClass.{CellClass}
use Rattle.in_arena.specs.declared.content.CellNo.{CellNo}
use Rattle.in_interaction.specs.Queues.{both}
use Rattle.in_check.specs.Runs.{IsRenamed}
use Rattle.in_compile.specs.Cells.{count_of}
use Rattle.in_reducer.specs.Cutting.{CanJoin, CutsAt, JoinsLast, net_in}
use Rattle.in_reducer.specs.Machines.{MachineParts, HasItsPairs}
use Rattle.in_reducer.specs.Parting.{IsGluedButQueue, IsSplitButQueues, ReducesTo, names_of}
use Rattle.in_reducer.specs.Reducers.{IsReducer}
use Rattle.in_reducer.specs.Steps.{StepsAt}

-- a net is reduced to itself by 0 interactions, and one interaction reduces it by one
abbrev pub StaysReduce : Type 0
StaysReduce = (m : MachineParts) → ReducesTo m 0 m

abbrev pub StepsReduce : Type 0
StepsReduce = (m o : MachineParts) (i : ℕ) → IsReducer m → StepsAt m i o → ReducesTo m 1 o

-- the counts are added
abbrev pub ReductionsGoOn : Type 0
ReductionsGoOn = (l m n : MachineParts) (j k : ℕ) → ReducesTo l j m → ReducesTo m k n → ReducesTo l (j + k) n

-- if a part is split off, both are reduced by themselves, and it is glued on again, the whole is reduced by the sum of both counts
abbrev pub PartsReduceTheWhole : Type 0
PartsReduceTheWhole = (m rest part rest_after part_after after : MachineParts) (agents : List CellNo) (own cuts cells j k : ℕ) → IsReducer m → IsReducer rest → IsReducer part →
    IsSplitButQueues m agents own cuts cells rest part → ReducesTo rest j rest_after → ReducesTo part k part_after → IsGluedButQueue rest_after part_after own cuts after → ReducesTo m (j + k) after

-- ---- determined results

-- the second queue is the first in some order: each pair of the first has a place in the second, with the same pair there, no two have one place,
-- and no place is left over
pub record IsReordered (IsSame : ℕ × ℕ → ℕ × ℕ → Type 0) (queue queue_too : List (ℕ × ℕ)) : Type 0 where
  pub place : ℕ → ℕ
  pub pairs : (k : ℕ) (q : ℕ × ℕ) → slice_get queue k ≡ Some q → (r : ℕ × ℕ) × (slice_get queue_too (place k) ≡ Some r) × IsSame q r
  pub once : (j k : ℕ) → j < length queue → k < length queue → place j ≡ place k → j ≡ k
  pub all : (j : ℕ) → j < length queue_too → (k : ℕ) × (k < length queue) × (place k ≡ j)

-- the same two agents, in either order. (Of two constructors, or two destructors, the agent with the lower number is first; a sound net has
-- no such pair)
abbrev pub AreSameTwo : ℕ × ℕ → ℕ × ℕ → Type 0
AreSameTwo q r = (r ≡ q) ⊎ (r ≡ (q.1, q.0))

-- two reducers are the same up to the numbers of their agents and the order of their queues, if these have the active pairs, each once
pub record DifferInNumbers (m m_too : MachineParts) : Type 0 where
  pub number : ℕ → ℕ
  pub net : IsRenamed number (net_in m) (net_in m_too)
  pub program : m.program ≡ m_too.program
  pub names : names_of m ≡ names_of m_too
  pub vacant : (c : CellClass) → count_of m.vacant c ≡ count_of m_too.vacant c
  pub queue : HasItsPairs m → HasItsPairs m_too → IsReordered (λ q r. AreSameTwo (both number q) r) m.queue m_too.queue

-- .. and the agents of both have the same numbers
pub record DifferInOrder (m m_too : MachineParts) : Type 0 where
  pub net : IsRenamed (λ y. y) (net_in m) (net_in m_too)
  pub alike : DifferInNumbers m m_too
  pub queue : HasItsPairs m → HasItsPairs m_too → IsReordered (λ q r. q ≡ r) m.queue m_too.queue

-- the net, the agents and the cuts determine the rest and the part that is split off
abbrev pub SplitsAreAlike : Type 0
SplitsAreAlike = (m rest part rest_too part_too : MachineParts) (agents : List CellNo) (own cuts cells : ℕ) →
    IsSplitButQueues m agents own cuts cells rest part → IsSplitButQueues m agents own cuts cells rest_too part_too → DifferInOrder rest rest_too × DifferInNumbers part part_too

-- the rest, the part and the cuts determine the glued net
abbrev pub GluingsAreAlike : Type 0
GluingsAreAlike = (rest part m m_too : MachineParts) (own cuts : ℕ) → IsGluedButQueue rest part own cuts m → IsGluedButQueue rest part own cuts m_too → DifferInNumbers m m_too

-- if a wire was cut, and only interactions were done since, the two ends can be joined, and the net before the cut is reduced to the result
abbrev pub CutsAreUndone : Type 0
CutsAreUndone = (m n o : MachineParts) (c i k : ℕ) → IsReducer m → CutsAt m c i n → ReducesTo n k o →
    CanJoin o × (2 ≤ length o.free) × ((after : MachineParts) → JoinsLast o after → ReducesTo m k after)

-- a given number of wires are cut, one after another
pub data IsCutTimes : MachineParts → ℕ → MachineParts → Type 0 where
  uncut : (m : MachineParts) → IsCutTimes m zero m
  then_cut : (w : ℕ) (m n o : MachineParts) (c i : ℕ) → IsCutTimes m w n → IsReducer n → CutsAt n c i o → IsCutTimes m (suc w) o
