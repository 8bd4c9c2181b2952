-- Nodes that are put back, from the last turn to the first, and what each of them meets.
use Rattle.std.specs.Prelude.{◌≡◌, ◌⊎◌, ℕ, zero, suc, ◌+◌, ◌<◌, ◌≤◌, List, length, slice_index_or, Option, Some, None}
use Rattle.in_open_nets.specs.declared.open_nets.OpenPoint.TheVariants.{Port}
use Rattle.in_open_nets.specs.Constructions.{IsIn}
use Rattle.in_open_nets.specs.OpenNets.{OpenNet, IsWire, open_graph}
use Rattle.in_open_nets.specs.Splitting.{Linked}
use Rattle.in_open_nets.specs.Stuck.{ports_of, turn}
use Rattle.in_simple_deriving.specs.Turns.{NodeOrder, IsHeadFrom, left, turn_of}
use Rattle.in_simple_deriving.specs.declared.heads.Met.{Met}
use Rattle.in_simple_deriving.specs.declared.heads.Met.TheVariants.{Head, Again, Gone}

-- l is the node at the other end of the wire at the port of n that has the turn k; or, past the ports, the node with that turn
abbrev pub IsAtTurn : OpenNet → ℕ → ℕ → ℕ → Type 0
IsAtTurn o n k l = ((i : ℕ) × (w : ℕ) × (j : ℕ) × IsWire o w (Port n i) (Port l j) × (turn o n i ≡ k)) ⊎ (suc (ports_of o n) + l ≡ k)

module _ (x : NodeOrder) (n : ℕ) where
  -- joined without n
  abbrev pub JoinedAfter : ℕ → ℕ → Type 0
  JoinedAfter l m = Linked (open_graph x.net) (λ u. IsIn u (left x (suc (turn_of x n)))) l m

  -- the component of m is met at a turn before k
  abbrev pub IsMetBefore : ℕ → ℕ → Type 0
  IsMetBefore k m = (b : ℕ) × (l : ℕ) × (b < k) × IsAtTurn x.net n b l × JoinedAfter l m

  -- what n meets at the turn k
  abbrev pub MeetsAt : ℕ → Met → Type 0
  MeetsAt k (Head h) = (l : ℕ) × IsAtTurn x.net n k l × JoinedAfter l h × IsHeadFrom x (suc (turn_of x n)) h × (IsMetBefore k l → ⊥)
  MeetsAt k Again = (l : ℕ) × IsAtTurn x.net n k l × IsMetBefore k l
  MeetsAt k Gone = (l : ℕ) → IsAtTurn x.net n k l → IsIn l (left x (suc (turn_of x n))) → ⊥

-- the port of n that has the turn k
abbrev pub IsPortAt : OpenNet → ℕ → ℕ → Option ℕ → Type 0
IsPortAt o n k (Some i) = (i < ports_of o n) × (turn o n i ≡ k)
IsPortAt o n k None = (i : ℕ) → i < ports_of o n → turn o n i ≡ k → ⊥

-- ---- climbing

-- where a node leads
abbrev pub up_from : List ℕ → ℕ → ℕ
up_from up m = slice_index_or up m 0

-- a climb from m gets to r
pub data Climbs (up : List ℕ) : ℕ → ℕ → Type 0 where
  stays : (m : ℕ) → Climbs up m m
  climbs : (m r : ℕ) → Climbs up (up_from up m) r → Climbs up m r

-- each node leads to itself
pub record AreAlone (count : ℕ) (up : List ℕ) : Type 0 where
  pub size : length up ≡ count
  pub each : (m : ℕ) → m < count → up_from up m ≡ m

-- each node leads to itself or to one with an earlier turn
abbrev pub LeadsEarlier : List ℕ → List ℕ → Type 0
LeadsEarlier turns up = (m : ℕ) → m < length up → (up_from up m < length up) × ((up_from up m ≡ m) ⊎ (slice_index_or turns (up_from up m) 0 < slice_index_or turns m 0))

-- each node leads past some nodes, and those that lead to themselves are the same
pub record IsShorter (up up' : List ℕ) : Type 0 where
  pub size : length up' ≡ length up
  pub past : (m : ℕ) → Climbs up m (up_from up' m)
  pub tops : (m : ℕ) → up_from up' m ≡ m → up_from up m ≡ m
  pub stay : (m : ℕ) → up_from up m ≡ m → up_from up' m ≡ m

-- ---- the nodes that are back

-- those with this turn or a later one
pub record PutBackTo : Type 0 where
  pub order : NodeOrder
  pub turn : ℕ

abbrev pub back_to : NodeOrder → ℕ → PutBackTo
back_to x t = record { order = x; turn = t }

-- one node, as far as its turns below this one go
pub record MeetsTo : Type 0 where
  pub order : NodeOrder
  pub node : ℕ
  pub turn : ℕ

abbrev pub meets_to : NodeOrder → ℕ → ℕ → MeetsTo
meets_to x n k = record { order = x; node = n; turn = k }

abbrev pub meets_next : MeetsTo → MeetsTo
meets_next m = meets_to m.order m.node (m.turn + 1)

-- the nodes whose turns are t or later lead up within their components, to the heads
pub record IsUp (x : NodeOrder) (t : ℕ) (up : List ℕ) : Type 0 where
  pub size : length up ≡ length x.net.nodes
  pub leads : (m : ℕ) → IsIn m (left x t) → Linked (open_graph x.net) (λ u. IsIn u (left x t)) m (up_from up m)
  pub goes : LeadsEarlier x.turns up
  pub heads : (m : ℕ) → IsIn m (left x t) → up_from up m ≡ m → IsHeadFrom x t m

-- n is put back, as far as the turns below k go: nodes that it met lead to it
pub record IsMeeting (x : NodeOrder) (n k : ℕ) (up : List ℕ) : Type 0 where
  pub node : n < length x.net.nodes
  pub size : length up ≡ length x.net.nodes
  pub itself : up_from up n ≡ n
  pub goes : LeadsEarlier x.turns up
  pub leads : (m : ℕ) → IsIn m (left x (suc (turn_of x n))) → ((up_from up m ≡ n) × IsMetBefore x n k m) ⊎ JoinedAfter x n m (up_from up m)
  pub heads : (m : ℕ) → IsIn m (left x (suc (turn_of x n))) → up_from up m ≡ m → IsHeadFrom x (suc (turn_of x n)) m × (IsMetBefore x n k m → ⊥)

-- what the nodes with turns t or later met is listed from the first place of each on: at its ports, and for the first turn at all nodes
abbrev pub last_turn : NodeOrder → ℕ → ℕ
last_turn x n = elim (turn_of x n) [ zero ↦ suc (ports_of x.net n) + length x.net.nodes | suc t ↦ suc (ports_of x.net n) ]

pub record AreHeads (x : NodeOrder) (t : ℕ) (first : List ℕ) (met : List Met) : Type 0 where
  pub size : length first ≡ length x.net.nodes
  pub room : (n : ℕ) → IsIn n (left x t) → slice_index_or first n 0 + last_turn x n ≤ length met
  pub each : (n k : ℕ) → IsIn n (left x t) → k < last_turn x n → MeetsAt x n k (slice_index_or met (slice_index_or first n 0 + k) (Head 0))

-- these are listed after the earlier ones: what n met at its turns below k
pub record AreMetAfter (x : NodeOrder) (n : ℕ) (old : List Met) (k : ℕ) (new : List Met) : Type 0 where
  pub size : length new ≡ length old + k
  pub same : (p : ℕ) → p < length old → slice_index_or new p (Head 0) ≡ slice_index_or old p (Head 0)
  pub each : (b : ℕ) → b < k → MeetsAt x n b (slice_index_or new (length old + b) (Head 0))
