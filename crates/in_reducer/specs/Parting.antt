-- A net in two parts: a part is split off from a reducer, as a reducer by itself that shares nothing with the rest, and glued on again. Wires
-- between the two are cut before. That nets are reduced in parts is this project's own choice.
use Rattle.std.specs.Prelude.{◌≡◌, ◌+◌, ◌-◌, ◌<◌, ℕ, zero, suc, nat_lt, cond, List, [], ◌∷◌, ◌++◌, length, map, Option, Some, None, IsSome, slice_get}
use Rattle.in_arena.specs.Changes.{AreListedOnce}
use Rattle.in_arena.specs.declared.content.CellClass.{CellClass}
use Rattle.in_arena.specs.declared.content.CellNo.{CellNo}
use Rattle.in_net.specs.Nets.{Point, Port, Free}
use Rattle.in_compile.specs.Cells.{agents_of, count_of}
use Rattle.in_check.specs.Systems.{system_of}
use Rattle.in_cells.specs.Laws.{ends_of}
use Rattle.in_gluing.specs.SideBySide.{IsWiredWithin, StandBeside}
use Rattle.in_order.specs.Leading.{Leads}
use Rattle.in_reducer.specs.Cutting.{net_in}
use Rattle.in_reducer.specs.Machines.{HasItsPairs, KeepsCellCounts, MachineParts}

abbrev pub names_of : MachineParts → List (List ℕ)
names_of m = map (λ f. f.name) m.free

-- ---- the free ends of a net in two parts

-- a given number of times, one of the part (1) and one of the rest (0), by turns, from these numbers on
abbrev pub by_turns : ℕ → ℕ → ℕ → List (ℕ × ℕ)
by_turns own j zero = []
by_turns own j (suc w) = (1, j) ∷ (0, own + j) ∷ by_turns own (suc j) w

-- in a net that had `own` free ends before `cuts` wires were cut, the first end of each cut is one of the part, and the second one of the rest
abbrev pub ends_of_two : ℕ → ℕ → List (ℕ × ℕ)
ends_of_two own cuts = ends_of 0 0 own ++ by_turns own 0 cuts

-- the number in the net of this free end of the rest (part 0) or the part (part 1)
abbrev pub place_of_two : ℕ → ℕ → ℕ → ℕ
place_of_two own zero e = cond (nat_lt e own) e (own + suc ((e - own) + (e - own)))
place_of_two own (suc i) e = own + (e + e)

abbrev pub names_of_two : List (List ℕ) → List (List ℕ) → ℕ × ℕ → Option (List ℕ)
names_of_two rest part (zero, e) = slice_get rest e
names_of_two rest part (suc i, e) = slice_get part e

-- the net is the rest and the part side by side, the agents of the part under these names, with the free ends in that order; the wires of either
-- lead between its own points
pub record IsOfTwo (m rest part : MachineParts) (own cuts : ℕ) : Type 0 where
  pub program_rest : rest.program ≡ m.program
  pub program_part : part.program ≡ m.program
  pub name : ℕ → ℕ
  pub beside : StandBeside (net_in rest) (net_in part) name (ends_of_two own cuts) (net_in m)
  pub within_rest : IsWiredWithin (net_in rest)
  pub within_part : IsWiredWithin (net_in part)
  pub names : map (λ n. Some n) (names_of m) ≡ map (names_of_two (names_of rest) (names_of part)) (ends_of_two own cuts)

-- ---- split off

-- one of these agents' ports, or the first end of a cut
abbrev pub IsInPart : List CellNo → ℕ → ℕ → Point ℕ → Type 0
IsInPart agents own cuts (Port c i) = (k : ℕ) × (slice_get agents k ≡ Some (record { 0 = c }))
IsInPart agents own cuts (Free f) = (j : ℕ) × (j < cuts) × (f ≡ own + (j + j))

-- these are agents of the net, each named once; they and the first ends of the cuts lead only to each other
pub record CanSplit (m : MachineParts) (agents : List CellNo) (own cuts : ℕ) : Type 0 where
  pub many : length m.free ≡ own + (cuts + cuts)
  pub there : (k : ℕ) (c : CellNo) → slice_get agents k ≡ Some c → IsSome ((net_in m).symbol c.0)
  pub once : AreListedOnce agents
  pub closed : (k i : ℕ) (c : CellNo) (q : Point ℕ) → slice_get agents k ≡ Some c → (net_in m).partner (Port c.0 i) ≡ Some q → IsInPart agents own cuts q
  pub ends : (j : ℕ) (q : Point ℕ) → j < cuts → (net_in m).partner (Free (own + (j + j))) ≡ Some q → IsInPart agents own cuts q

-- the rest has none of these agents, and all other agents of the net
pub record HasOthers (m : MachineParts) (agents : List CellNo) (rest : MachineParts) : Type 0 where
  pub gone : (k : ℕ) (c : CellNo) → slice_get agents k ≡ Some c → (net_in rest).symbol c.0 ≡ None
  pub others : (y : ℕ) → ((k : ℕ) → slice_get agents k ≡ Some (record { 0 = y }) → ⊥) → (net_in rest).symbol y ≡ (net_in m).symbol y

-- these agents are the part, which has `size` cells of each class, and their old cells are free in the rest; the order of the queues is open
pub record IsSplitButQueues (m : MachineParts) (agents : List CellNo) (own cuts size : ℕ) (rest part : MachineParts) : Type 0 where
  pub of_rest : HasOthers m agents rest
  pub two : IsOfTwo m rest part own cuts
  pub many_rest : length rest.free ≡ own + cuts
  pub many_part : length part.free ≡ cuts
  pub part_cells : (c : CellClass) → count_of part.vacant c + agents_of part.program.tables c part.agents ≡ size
  pub vacant : (c : CellClass) → count_of rest.vacant c ≡ count_of m.vacant c + agents_of m.program.tables c part.agents
  pub cells : (c : CellClass) → count_of rest.vacant c + agents_of m.program.tables c rest.agents ≡ count_of m.vacant c + agents_of m.program.tables c m.agents

-- .. and the queue of either has its active pairs, each once
pub record IsSplitOff (m : MachineParts) (agents : List CellNo) (own cuts size : ℕ) (rest part : MachineParts) : Type 0 where
  pub but_queues : IsSplitButQueues m agents own cuts size rest part
  pub queue_rest : HasItsPairs rest
  pub queue_part : HasItsPairs part

-- ---- glued on

-- the agents of the part have taken as many free cells of each class; queues are open
pub record IsGluedButQueue (rest part : MachineParts) (own cuts : ℕ) (m : MachineParts) : Type 0 where
  pub two : IsOfTwo m rest part own cuts
  pub vacant : (c : CellClass) → count_of m.vacant c + agents_of m.program.tables c part.agents ≡ count_of rest.vacant c
  pub cells : (c : CellClass) → count_of m.vacant c + agents_of m.program.tables c m.agents ≡ count_of rest.vacant c + agents_of m.program.tables c rest.agents

-- .. and the queue has the active pairs, each once
pub record IsGluedOn (rest part : MachineParts) (own cuts : ℕ) (m : MachineParts) : Type 0 where
  pub but_queue : IsGluedButQueue rest part own cuts m
  pub queue : HasItsPairs m

-- ---- reduced

-- k interactions lead from the net of the first to that of the second, under any numbers of their agents; program, names of free ends and numbers of
-- cells stay
pub record ReducesTo (m : MachineParts) (k : ℕ) (after : MachineParts) : Type 0 where
  pub program : after.program ≡ m.program
  pub leads : Leads (system_of m.program) k (net_in m) (net_in after)
  pub names : names_of after ≡ names_of m
  pub cells : KeepsCellCounts m after
