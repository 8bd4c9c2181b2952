-- The order of the steps of a derivation. This project's own choice. A joint is a step over the last ones that no step names.
-- The first node that splits a sub-net is taken out, and its turns come one after another, as for the first stuck sub-net. A turn has
-- the component that comes there, or the Link of the wire at an agent's auxiliary port that leads to no other node and to no earlier port, or
-- nothing. At an agent's auxiliary port it begins its class or is set beside the others of its class; at an agent's principal port or
-- at a class node's port it is cut; a component that the node doesn't touch is set beside. A class node is before its first turn, and an agent before
-- the turn of its principal port, with an Empty for each of its classes without ports. At the end come the Links of wires between two free
-- ends, by number, each beside the rest; and Empty if there is nothing.
use Rattle.std.specs.Prelude.{◌≡◌, ◌↔◌, ℕ, zero, suc, ◌+◌, ◌-◌, ◌<◌, Bool, true, false, cond, nat_eq, nat_lt, List, [], ◌∷◌, ◌++◌, length, take, drop, slice_get, Some, None}
use Rattle.in_open_nets.specs.declared.open_nets.Node.TheVariants.{AgentNode, ClassNode}
use Rattle.in_open_nets.specs.declared.open_nets.OpenPoint.{OpenPoint}
use Rattle.in_open_nets.specs.declared.open_nets.OpenPoint.TheVariants.{Port, Free}
use Rattle.in_simple_deriving.specs.declared.plans.StackStep.{StackStep}
use Rattle.in_simple_deriving.specs.declared.plans.StackStep.TheVariants.{Empty, Link, Given, Graft, Cut, Mix}
use Rattle.in_open_nets.specs.Constructions.{IsIn}
use Rattle.in_open_nets.specs.declared.derivations.Step.{Step}
use Rattle.in_open_nets.specs.OpenNets.{OpenNet, IsAgent, IsNode, IsWire, class_in, classes_of}
use Rattle.in_simple_deriving.specs.Joints.{count_of, step_of, loose_in}
use Rattle.in_node_orders.specs.Orders.{IsLeft}
use Rattle.in_open_nets.specs.Stuck.{ComesAt, IsFirstToSplit, IsPart, ports_of, turn}

-- ---- the joints at a node, turn by turn: those of the turn, those before it, and the one that joins it to the earlier ones

-- a given number of Empties
abbrev pub empties : ℕ → List StackStep
empties zero = []
empties (suc k) = Empty ∷ empties k

-- a class node is first; an agent comes after its classes
abbrev pub first_joint : OpenNet → ℕ → List StackStep
first_joint o n = elim (slice_get o.nodes n) [ None ↦ [] | Some m ↦ elim m.node [ AgentNode y ↦ [] | ClassNode y c ↦ Given n ∷ [] ] ]

-- before an agent's port an Empty for each class that has no port, and before its principal port the Graft
abbrev pub before : OpenNet → ℕ → ℕ → List StackStep
before o n k = elim (slice_get o.nodes n) [
  | None ↦ []
  | Some m ↦ elim m.node [
    | AgentNode y ↦ cond (nat_lt k (ports_of o n)) (empties (class_in o n k - class_in o n (k - 1) - 1))
        (cond (nat_eq k (ports_of o n)) (empties (classes_of o n - class_in o n (k - 1)) ++ Graft n (classes_of o n) ∷ []) [])
    | ClassNode y c ↦ []
  ]
]

-- it begins a class; is set beside the earlier ones; or is cut to them
pub data Manner : Type 0 where
  begins : Manner
  beside : Manner
  cut : Manner

-- at an agent's auxiliary ports a class begins or continues; at its principal port and at a class node's ports there are cuts; components
-- that the node doesn't touch are set beside
abbrev pub manner : OpenNet → ℕ → ℕ → Manner
manner o n k = elim (slice_get o.nodes n) [
  | None ↦ beside
  | Some m ↦ elim m.node [
    | AgentNode y ↦ cond (nat_lt k (ports_of o n)) (cond (nat_lt (class_in o n (k - 1)) (class_in o n k)) begins beside) (cond (nat_eq k (ports_of o n)) cut beside)
    | ClassNode y c ↦ cond (nat_lt k (ports_of o n)) cut beside
  ]
]

-- the wire at the port whose turn that is
abbrev pub IsWireAt : OpenNet → ℕ → ℕ → ℕ → Type 0
IsWireAt o n k w = (i : ℕ) × (q : OpenPoint) × IsWire o w (Port n i) q × (turn o n i ≡ k)

-- these joints, none or one, join the component or Link of a turn in that manner
abbrev pub JoinsInManner : OpenNet → ℕ → ℕ → Manner → List StackStep → Type 0
JoinsInManner o n k begins js = js ≡ []
JoinsInManner o n k beside js = js ≡ Mix ∷ []
JoinsInManner o n k cut js = (w : ℕ) × IsWireAt o n k w × (js ≡ Cut w ∷ [])

-- the point is no port of a node of t, nor one of n up to k
abbrev pub LeadsAway : (ℕ → Bool) → ℕ → ℕ → OpenPoint → Type 0
LeadsAway t n k (Free e) = Unit {0}
LeadsAway t n k (Port l j) = (IsIn l t → ⊥) × (l ≡ n → k < j)

-- wire w is at the auxiliary port k of the agent n, and leads away
pub record LinksAt (o : OpenNet) (t : ℕ → Bool) (n k w : ℕ) : Type 0 where
  pub agent : IsAgent o n
  pub auxiliary : 0 < k
  pub port : k < ports_of o n
  pub point : OpenPoint
  pub wire : IsWire o w (Port n k) point
  pub away : LeadsAway t n k point

-- the turn has no component, and no such Link
abbrev pub NothingAt : OpenNet → (ℕ → Bool) → ℕ → ℕ → Type 0
NothingAt o t n k = ((c : ℕ → Bool) → IsPart o n t c → ComesAt o n c k → ⊥) × ((w : ℕ) → LinksAt o t n k w → ⊥)

-- ---- the joints of a sub-net

-- all of a sub-net; the turns of n below k, where t remains; the turn k
pub data Stage : Type 0 where
  part : (ℕ → Bool) → Stage
  turns : (ℕ → Bool) → ℕ → ℕ → Stage
  at : (ℕ → Bool) → ℕ → ℕ → Stage

-- the first node that splits s is taken out, and its turns come one after another: each has a component, or the Link of a
-- wire that leads away, or nothing
pub data Comes (o : OpenNet) : Stage → List StackStep → Type 0 where
  taken : (s t : ℕ → Bool) (n : ℕ) (js : List StackStep) → IsFirstToSplit o n s → IsLeft n s t → Comes o (turns t n (suc (ports_of o n) + length o.nodes)) js → Comes o (part s) js
  start : (t : ℕ → Bool) (n : ℕ) → Comes o (turns t n zero) (first_joint o n)
  next : (t : ℕ → Bool) (n k : ℕ) (js is : List StackStep) → Comes o (turns t n k) js → Comes o (at t n k) is → Comes o (turns t n (suc k)) (js ++ (before o n k ++ is))
  component : (t : ℕ → Bool) (n k : ℕ) (c : ℕ → Bool) (js is : List StackStep) → IsPart o n t c → ComesAt o n c k → Comes o (part c) js → JoinsInManner o n k (manner o n k) is → Comes o (at t n k) (js ++ is)
  link : (t : ℕ → Bool) (n k w : ℕ) (is : List StackStep) → LinksAt o t n k w → JoinsInManner o n k (manner o n k) is → Comes o (at t n k) (Link w ∷ is)
  nothing : (t : ℕ → Bool) (n k : ℕ) → NothingAt o t n k → Comes o (at t n k) []

-- ---- the whole open net

-- a given number of wires from w on: a Link of each between two free ends, beside the earlier ones; Empty if there is nothing
abbrev pub links_from : OpenNet → Bool → ℕ → ℕ → List StackStep
links_from o came w zero = cond came [] (Empty ∷ [])
links_from o came w (suc n) = cond (loose_in o w) (Link w ∷ (cond came (Mix ∷ []) [] ++ links_from o true (w + 1) n)) (links_from o came (w + 1) n)

-- the nodes, if there are some, and then these Links
pub data AreJointsOf (o : OpenNet) : List StackStep → Type 0 where
  with_nodes : (s : ℕ → Bool) (js : List StackStep) → 0 < length o.nodes → ((n : ℕ) → IsIn n s ↔ IsNode o n) → Comes o (part s) js → AreJointsOf o (js ++ links_from o true 0 (length o.wires))
  without : length o.nodes ≡ 0 → AreJointsOf o (links_from o false 0 (length o.wires))

-- each joint as a step over the last steps that none names
abbrev pub steps_from : List StackStep → List Step → List ℕ → List Step
steps_from [] steps roots = steps
steps_from (j ∷ js) steps roots = steps_from js (steps ++ step_of j (drop (length roots - count_of j) roots) ∷ []) (take (length roots - count_of j) roots ++ length steps ∷ [])

-- the steps that `derive` returns
abbrev pub AreTaken : OpenNet → List Step → Type 0
AreTaken o steps = (js : List StackStep) × AreJointsOf o js × (steps ≡ steps_from js [] [])
