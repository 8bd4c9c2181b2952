-- One order of all nodes of a net: those that are taken out come first, in turn. A part is known by its head, the node of it that has the
-- first turn. This project's own choice.
use Rattle.std.specs.Prelude.{◌≡◌, ◌⊎◌, ℕ, zero, suc, ◌<◌, ◌≤◌, Bool, false, cond, ◌||◌, ◌&&◌, not, nat_eq, nat_lt, List, [], ◌∷◌, ◌++◌, length, slice_index_or}
use Rattle.in_open_nets.specs.declared.open_nets.OpenPoint.{OpenPoint}
use Rattle.in_open_nets.specs.declared.open_nets.OpenPoint.TheVariants.{Port, Free}
use Rattle.in_open_nets.specs.Constructions.{IsIn}
use Rattle.in_open_nets.specs.OpenNets.{OpenNet, NodeTest, IsOrderly, open_graph}
use Rattle.in_open_nets.specs.Splitting.{Linked}
use Rattle.in_open_nets.specs.Stuck.{IsFirstToSplit}
use Rattle.in_node_orders.specs.Orders.{NoNodeSplits}
use Rattle.in_node_orders.specs.Turns.{AreDistinct}

-- the nodes by turn, the turn of each node, and how many nodes are taken out
pub record NodeOrder : Type 0 where
  pub net : OpenNet
  pub nodes : List ℕ
  pub turns : List ℕ
  pub taken : ℕ

abbrev pub node_at : NodeOrder → ℕ → ℕ
node_at x t = slice_index_or x.nodes t 0

abbrev pub turn_of : NodeOrder → ℕ → ℕ
turn_of x n = slice_index_or x.turns n 0

-- the nodes whose turns are t or later
abbrev pub left : NodeOrder → ℕ → NodeTest
left x t m = nat_lt m (length x.net.nodes) && nat_lt t (suc (turn_of x m))

-- each node has one turn, the nodes that are taken out are the first ones to split what is left, and then no node splits the rest
pub record IsNodeTurns (x : NodeOrder) : Type 0 where
  pub orderly : IsOrderly x.net
  pub each : length x.turns ≡ length x.net.nodes
  pub node : (t : ℕ) → t < length x.nodes → (node_at x t < length x.net.nodes) × (turn_of x (node_at x t) ≡ t)
  pub turn : (n : ℕ) → n < length x.net.nodes → (turn_of x n < length x.nodes) × (node_at x (turn_of x n) ≡ n)
  pub most : x.taken ≤ length x.nodes
  pub first : (t : ℕ) → t < x.taken → IsFirstToSplit x.net (node_at x t) (left x t)
  pub stuck : NoNodeSplits x.net (left x x.taken)

-- the first of these nodes are the given ones
abbrev pub AreFirst : List ℕ → List ℕ → Type 0
AreFirst first nodes = (rest : List ℕ) × (nodes ≡ first ++ rest)

-- .. and then the others come; each node comes once
pub record AreAllFrom (count : ℕ) (first nodes : List ℕ) : Type 0 where
  pub begins : AreFirst first nodes
  pub distinct : AreDistinct count nodes
  pub all : (n : ℕ) → n < count → (t : ℕ) × (t < length nodes) × (slice_index_or nodes t 0 ≡ n)

-- ---- sets as lists of tests

-- the tests of the nodes below a number
unfoldable pub tests_below : ℕ → NodeTest → List Bool
tests_below zero s = []
tests_below (suc n) s = tests_below n s ++ s n ∷ []

-- ---- joined nodes, by computing

abbrev pub is_pair : OpenPoint → OpenPoint → ℕ → ℕ → Bool
is_pair (Port a i) (Port b j) l m = nat_eq a l && nat_eq b m
is_pair (Port a i) (Free k) l m = false
is_pair (Free k) q l m = false

-- some wire joins l and m
abbrev pub next_in : List (OpenPoint × OpenPoint) → ℕ → ℕ → Bool
next_in [] l m = false
next_in (w ∷ ws) l m = (is_pair w.0 w.1 l m || is_pair w.0 w.1 m l) || next_in ws l m

-- l and m are joined in s by a way that has nodes below z alone between them
unfoldable pub joined_through : OpenNet → NodeTest → ℕ → ℕ → ℕ → Bool
joined_through o s zero l m = (s l && s m) && (nat_eq l m || next_in o.wires l m)
joined_through o s (suc z) l m = joined_through o s z l m || (joined_through o s z l z && joined_through o s z z m)

-- m is in the component of h of the nodes whose turns are t or later
abbrev pub is_joined_from : NodeOrder → ℕ → ℕ → NodeTest
is_joined_from x t h m = joined_through x.net (left x t) (length x.net.nodes) h m

-- ---- parts

-- the part with the head h: its component of the nodes whose turns aren't before that of h; all nodes, if it has the first turn
unfoldable pub is_in_part : NodeOrder → ℕ → NodeTest
is_in_part x h m = cond (nat_eq (turn_of x h) 0) (nat_lt m (length x.net.nodes)) (is_joined_from x (turn_of x h) h m)

abbrev pub part_of : NodeOrder → ℕ → List Bool
part_of x h = tests_below (length x.net.nodes) (is_in_part x h)

-- .. without its head
abbrev pub rest_of : NodeOrder → ℕ → List Bool
rest_of x h = tests_below (length x.net.nodes) (λ m. is_in_part x h m && not (nat_eq m h))

-- a part of a net, and its head
pub record HeadedPart : Type 0 where
  pub net : OpenNet
  pub head : ℕ
  pub nodes : List Bool

abbrev pub headed : NodeOrder → ℕ → HeadedPart
headed x h = record { net = x.net; head = h; nodes = part_of x h }

-- h has the first turn of all nodes, or of its component of those whose turns are t or later
abbrev pub IsHeadFrom : NodeOrder → ℕ → ℕ → Type 0
IsHeadFrom x t h = IsIn h (left x t) × ((m : ℕ) → Linked (open_graph x.net) (λ l. IsIn l (left x t)) h m → turn_of x h ≤ turn_of x m)

abbrev pub NamesPart : NodeOrder → ℕ → Type 0
NamesPart x h = (h < length x.net.nodes) × ((turn_of x h ≡ 0) ⊎ ((t : ℕ) × (0 < t) × (t ≤ x.taken) × IsHeadFrom x t h))
