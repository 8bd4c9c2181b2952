-- The invariants of the procedure that looks for a derivation. Sets of nodes are lists of tests, node by node.
use Rattle.std.specs.Prelude.{◌≡◌, ◌⊎◌, ◌↔◌, ℕ, suc, ◌<◌, ◌≤◌, Bool, false, ◌||◌, List, [], ◌∷◌, ◌++◌, length}
use Rattle.in_simple_deriving.specs.TaskStates.{TaskState}
pub use Rattle.in_simple_deriving.specs.TaskStates.{pending_in, with_task}
use Rattle.in_simple_deriving.specs.Turns.{HeadedPart}
use Rattle.in_simple_deriving.specs.declared.plans.Task.{Task}
use Rattle.in_simple_deriving.specs.declared.plans.Task.TheVariants.{Derive, Make}
use Rattle.in_open_nets.specs.Constructions.{IsIn, count}
use Rattle.in_open_nets.specs.Members.{nodes_in}
use Rattle.in_open_nets.specs.Parts.{IsReached, PortSplits}
use Rattle.in_open_nets.specs.Pieces.{IsLeftOf, IsPieceOrWhole}
use Rattle.in_open_nets.specs.Splitting.{Splits}
use Rattle.in_open_nets.specs.OpenNets.{OpenNet, NodeTest, open_graph}
use Rattle.in_open_nets.specs.Stuck.{IsPart, ComesAt, FirstStuck, ports_of}

abbrev pub AllSplit : OpenNet → NodeTest → Type 0
AllSplit o s = Splits (open_graph o) (λ m n. m < n) s

-- no component has a turn from low on and below k
abbrev pub HasNoTurn : OpenNet → ℕ → NodeTest → ℕ → ℕ → Type 0
HasNoTurn o n s low k = (d : NodeTest) (l : ℕ) → IsPart o n s d → ComesAt o n d l → low ≤ l → l < k → ⊥

-- the tasks derive the components that n leaves of s, by their turns from low on
abbrev pub Lists : OpenNet → ℕ → NodeTest → ℕ → List Task → Type 0
Lists o n s low [] = (d : NodeTest) (l : ℕ) → IsPart o n s d → ComesAt o n d l → low ≤ l → ⊥
Lists o n s low (Derive c ∷ ts) = (k : ℕ) × (low ≤ k) × IsPart o n s (nodes_in c.nodes) × ComesAt o n (nodes_in c.nodes) k × HasNoTurn o n s low k × Lists o n s (suc k) ts
Lists o n s low (Make x ∷ ts) = Lists o n s low ts

-- each part is of the net, has a test for each node, and some node
abbrev pub AreSizedTasks : OpenNet → List Task → Type 0
AreSizedTasks o [] = Unit {0}
AreSizedTasks o (Derive c ∷ ts) = ((c.net ≡ o) × (length c.nodes ≡ length o.nodes)) × ((m : ℕ) × IsIn m (nodes_in c.nodes)) × AreSizedTasks o ts
AreSizedTasks o (Make x ∷ ts) = AreSizedTasks o ts

-- the nodes of the components that come before a turn
abbrev pub AreBefore : OpenNet → ℕ → NodeTest → ℕ → List Bool → Type 0
AreBefore o n s turn done = (m : ℕ) → IsIn m (nodes_in done) ↔ ((d : NodeTest) × (l : ℕ) × IsPart o n s d × ComesAt o n d l × (l < turn) × IsIn m d)

-- a plan for the rest, without n, has reached a turn
pub record IsPlanAtTurn (o : OpenNet) (n : ℕ) (turn : ℕ) (p : TaskState) : Type 0 where
  pub net : p.net ≡ o
  pub node : p.node ≡ n
  pub most : suc (ports_of o n) ≤ p.turns
  pub rest_size : length p.rest ≡ length o.nodes
  pub done_size : length p.done ≡ length o.nodes
  pub out : nodes_in p.rest n ≡ false
  pub done : AreBefore o n (nodes_in p.rest) turn p.done
  pub sized : AreSizedTasks o p.tasks
  pub lists : (more : List Task) → Lists o n (nodes_in p.rest) turn more → Lists o n (nodes_in p.rest) 0 (p.tasks ++ more)
  pub splits : (i : ℕ) → PortSplits o p.rest n i
  pub left : IsLeftOf o n p.rest

-- .. and is for the same rest
abbrev pub StaysForRest : OpenNet → ℕ → ℕ → TaskState → TaskState → Type 0
StaysForRest o n turn old new = IsPlanAtTurn o n turn new × (new.rest ≡ old.rest)

-- the component of a node has this turn
abbrev pub HasTurn : OpenNet → ℕ → TaskState → ℕ → ℕ → Type 0
HasTurn o n p near turn = (c : NodeTest) → IsPart o n (nodes_in p.rest) c → IsIn near c → ComesAt o n c turn

-- the component of near is derived too
pub record DerivesNear (o : OpenNet) (near : ℕ) (old new : TaskState) : Type 0 where
  pub component : HeadedPart
  pub size : (component.net ≡ o) × (length component.nodes ≡ length o.nodes)
  pub reached : IsReached o old.rest near component.nodes
  pub tasks : new.tasks ≡ old.tasks ++ Derive component ∷ []
  pub net : new.net ≡ old.net
  pub node : new.node ≡ old.node
  pub turns : new.turns ≡ old.turns
  pub same : new.rest ≡ old.rest
  pub done_size : length new.done ≡ length old.done
  pub both : (m : ℕ) → nodes_in new.done m ≡ (nodes_in component.nodes m || nodes_in old.done m)

-- all properties of a plan at a turn are kept
abbrev pub KeepsPlan : TaskState → TaskState → Type 0
KeepsPlan old new = (o : OpenNet) (n t : ℕ) → IsPlanAtTurn o n t old → StaysForRest o n t old new

-- only steps
abbrev pub AreMakes : List Task → Type 0
AreMakes [] = Unit {0}
AreMakes (Derive c ∷ ts) = ⊥
AreMakes (Make x ∷ ts) = AreMakes ts

-- the first of the tasks' parts that doesn't split has t as its first stuck sub-net
abbrev pub StuckIn : OpenNet → List Task → NodeTest → Type 0
StuckIn o [] t = ⊥
StuckIn o (Derive c ∷ ts) t = FirstStuck o (nodes_in c.nodes) t ⊎ (AllSplit o (nodes_in c.nodes) × StuckIn o ts t)
StuckIn o (Make x ∷ ts) t = StuckIn o ts t

-- no node is in two of the parts
abbrev pub AreTasksApart : List Task → Type 0
AreTasksApart [] = Unit {0}
AreTasksApart (Derive c ∷ ts) = ((m : ℕ) → IsIn m (nodes_in c.nodes) → IsIn m (pending_in ts) → ⊥) × AreTasksApart ts
AreTasksApart (Make x ∷ ts) = AreTasksApart ts

-- each part but the whole net is in one piece
abbrev pub ArePieces : OpenNet → List Task → Type 0
ArePieces o [] = Unit {0}
ArePieces o (Derive c ∷ ts) = IsPieceOrWhole o c.nodes × ArePieces o ts
ArePieces o (Make x ∷ ts) = ArePieces o ts

-- the first of the parts that doesn't split decides which sub-net is the first stuck one
pub record IsWork (o : OpenNet) (tasks : List Task) : Type 0 where
  pub sized : AreSizedTasks o tasks
  pub apart : AreTasksApart tasks
  pub pieces : ArePieces o tasks
  pub whole : NodeTest
  pub nodes : (n : ℕ) → IsIn n whole ↔ (n < length o.nodes)
  pub stuck : (t : NodeTest) → StuckIn o tasks t → FirstStuck o whole t

-- steps are taken from the tasks
abbrev pub PassesSteps : List Task → List Task → Type 0
PassesSteps old new = ((o : OpenNet) → IsWork o old → IsWork o new) × ((m : ℕ) → pending_in new m ≡ pending_in old m)

-- the tasks derive all nodes, if there are some, and then only make steps
abbrev pub StartsWork : OpenNet → List Task → Type 0
StartsWork o [] = length o.nodes ≡ 0
StartsWork o (Derive c ∷ ts) = ((c.net ≡ o) × (length c.nodes ≡ length o.nodes)) × (0 < length o.nodes) × ((n : ℕ) → n < length o.nodes → IsIn n (nodes_in c.nodes)) × AreMakes ts
StartsWork o (Make x ∷ ts) = (length o.nodes ≡ 0) × AreMakes ts

-- fewer nodes wait to be derived
abbrev pub AreFewer : OpenNet → List Task → List Task → Type 0
AreFewer o old new = count (pending_in new) (length o.nodes) < count (pending_in old) (length o.nodes)
