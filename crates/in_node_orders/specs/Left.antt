-- The nodes that are left at a turn, and those of them that split what is left.
use Rattle.std.specs.Prelude.{◌≡◌, ℕ, ◌<◌, ◌≤◌, List, length, drop, slice_get, Some}
use Rattle.in_open_nets.specs.Constructions.{IsIn}
use Rattle.in_open_nets.specs.OpenNets.{OpenNet, NodeTest, open_graph}
use Rattle.in_open_nets.specs.Splitting.{SplitsAt}
use Rattle.in_node_orders.specs.declared.orders.Left.{Left}
use Rattle.in_node_orders.specs.Arrivals.{AreArrivals, HaveCome}
use Rattle.in_node_orders.specs.Growing.{IsGrowing}
use Rattle.in_node_orders.specs.Orders.{IsOrder}
use Rattle.in_node_orders.specs.Turns.{AreTurns, left_at}

-- the nodes that are left
abbrev pub left_nodes : OpenNet → Left → NodeTest
left_nodes o l = left_at o l.arrivals.node_turns l.turn

-- the edges that have come are those of the nodes that are left
pub record ShowsLeft (o : OpenNet) (l : Left) : Type 0 where
  pub arrivals : AreArrivals o l.growing.edges l.arrivals
  pub growing : IsGrowing l.growing
  pub come : HaveCome l.arrivals.turns l.turn l.growing.come

-- the nodes of t that split s are among these numbers, which fall and are nodes of t
pub record HasSplitting (o : OpenNet) (s t : NodeTest) (free : List ℕ) : Type 0 where
  pub all : (n : ℕ) → IsIn n t → SplitsAt (open_graph o) n s → (k : ℕ) × (slice_get free k ≡ Some n)
  pub inside : (k n : ℕ) → slice_get free k ≡ Some n → IsIn n t
  pub fall : (j k m n : ℕ) → j < k → slice_get free j ≡ Some m → slice_get free k ≡ Some n → n < m

-- the order is that of what is left, from the turn on
abbrev pub IsOrderFrom : OpenNet → List ℕ → List ℕ → ℕ → Type 0
IsOrderFrom o turns nodes i = IsOrder o (left_at o turns i) (drop i nodes) (left_at o turns (length nodes))

-- what is left has been tested
pub record IsTested (o : OpenNet) (nodes : List ℕ) (l : Left) : Type 0 where
  pub left : ShowsLeft o l
  pub turns : AreTurns (length o.nodes) nodes l.arrivals.node_turns
  pub most : l.turn ≤ length nodes
  pub free : HasSplitting o (left_nodes o l) (left_nodes o l) l.free
  pub order : IsOrderFrom o l.arrivals.node_turns nodes l.turn
