-- Parts of open nets: wires by port, the nodes that a search reaches, the nodes that split a part. Sets of nodes are lists of tests, node by node.
use Rattle.std.specs.Prelude.{◌≡◌, ◌↔◌, ℕ, ◌+◌, ◌*◌, ◌<◌, Bool, List, length, slice_set, slice_index_or, Option, Some, None, MatchOption}
use Rattle.in_open_nets.specs.declared.open_nets.OpenPoint.{OpenPoint}
use Rattle.in_open_nets.specs.declared.open_nets.OpenPoint.TheVariants.{Port, Free}
use Rattle.in_open_nets.specs.declared.wired.Target.{Target}
use Rattle.in_open_nets.specs.declared.wired.Target.TheVariants.{Nowhere, ToPort, ToFree}
use Rattle.in_open_nets.specs.Constructions.{IsIn}
use Rattle.in_open_nets.specs.Members.{nodes_in}
use Rattle.in_open_nets.specs.Splitting.{Linked, Without, SplitsAt, IsFirstSplitting}
use Rattle.in_open_nets.specs.OpenNets.{OpenNet, IsWire, class_in, open_graph}
use Rattle.in_open_nets.specs.Stuck.{ports_of}
use Rattle.in_syntax.specs.Grammar.{max_ports}

-- ---- wires by port

-- the wire at a port and its other point; a node has a slot for each port that an agent may have
abbrev pub Slot : Type 0
Slot = Option (ℕ × OpenPoint)

-- .. as it is kept
abbrev pub slot_of : ℕ → ℕ → ℕ → Target → Slot
slot_of w number place Nowhere = None
slot_of w number place ToPort = Some (w, Port number place)
slot_of w number place ToFree = Some (w, Free number)

abbrev pub slot_at : List Slot → ℕ → ℕ → Slot
slot_at slots n i = slice_index_or slots (n * (max_ports + 1) + i) None

-- a port has a slot
abbrev pub HasSlot : List Slot → OpenPoint → Type 0
HasSlot slots (Port n i) = n * (max_ports + 1) + i < length slots
HasSlot slots (Free k) = Unit {0}

-- the slots with this wire at a port
abbrev pub led : List Slot → ℕ → OpenPoint → OpenPoint → List Slot
led slots w (Port n i) q = slice_set slots (n * (max_ports + 1) + i) (Some (w, q))
led slots w (Free k) q = slots

-- the slots have wires of the open net, and all those below b
pub record AreLed (o : OpenNet) (b : ℕ) (slots : List Slot) : Type 0 where
  pub all : length slots ≡ length o.nodes * (max_ports + 1)
  pub right : (n i w : ℕ) (q : OpenPoint) → n < length o.nodes → i < max_ports + 1 → slot_at slots n i ≡ Some (w, q) → IsWire o w (Port n i) q
  pub some : (n i w : ℕ) (q : OpenPoint) → w < b → n < length o.nodes → i < max_ports + 1 → IsWire o w (Port n i) q → slot_at slots n i ≡ None → ⊥

abbrev pub IsWired : OpenNet → List Slot → Type 0
IsWired o slots = AreLed o (length o.wires) slots

-- how many ports each node below b has
pub record ArePorts (o : OpenNet) (b : ℕ) (ports : List ℕ) : Type 0 where
  pub all : length ports ≡ b
  pub right : (n : ℕ) → n < b → slice_index_or ports n 0 ≡ ports_of o n

-- ---- components

-- near is the node of the set that the port is wired to
abbrev pub IsNeighbour : OpenNet → List Bool → ℕ → ℕ → Option ℕ → Type 0
IsNeighbour o within n i near = MatchOption near
    ((w l j : ℕ) → IsWire o w (Port n i) (Port l j) → IsIn l (nodes_in within) → ⊥)
    (λ l. (w : ℕ) × (j : ℕ) × IsWire o w (Port n i) (Port l j) × IsIn l (nodes_in within) × (l < length o.nodes))

-- the component of a node in a sub-net
abbrev pub IsReached : OpenNet → List Bool → ℕ → List Bool → Type 0
IsReached o within from c = (k : ℕ) → IsIn k (nodes_in c) ↔ Linked (open_graph o) (λ m. IsIn m (nodes_in within)) from k

-- ---- splitting

-- rest has the nodes of part without n
abbrev pub IsRest : ℕ → List Bool → List Bool → Type 0
IsRest n part rest = (m : ℕ) → IsIn m (nodes_in rest) ↔ Without n (nodes_in part) m

-- ports that meet port i are of its class
pub record PortSplits (o : OpenNet) (rest : List Bool) (n i : ℕ) : Type 0 where
  pub own : (j w : ℕ) → IsWire o w (Port n i) (Port n j) → class_in o n i ≡ class_in o n j
  pub touched : (j w v l m k h : ℕ) → IsWire o w (Port n i) (Port l k) → IsWire o v (Port n j) (Port m h) → Linked (open_graph o) (λ m. IsIn m (nodes_in rest)) l m → class_in o n i ≡ class_in o n j

module _ (o : OpenNet) (part : List Bool) where
  -- a node of the part splits it; it is the first one that does; and none of the nodes below b does
  abbrev pub SplitsIt : ℕ → Type 0
  SplitsIt n = IsIn n (nodes_in part) × SplitsAt (open_graph o) n (nodes_in part)

  abbrev pub IsFirst : ℕ → Type 0
  IsFirst n = IsFirstSplitting (open_graph o) (λ m n. m < n) n (nodes_in part)

  abbrev pub NoneSplits : ℕ → Type 0
  NoneSplits b = (m : ℕ) → m < b → SplitsIt m → ⊥

-- this is the first node that splits the part, or none does
abbrev pub IsFirstIn : OpenNet → List Bool → Option ℕ → Type 0
IsFirstIn o part found = MatchOption found (NoneSplits o part (length o.nodes)) (IsFirst o part)
