-- The nets that the tasks of a plan put on a stack.
use Rattle.std.specs.Prelude.{◌≡◌, ◌⊎◌, ◌↔◌, ℕ, zero, suc, ◌+◌, ◌<◌, ◌≤◌, Bool, true, false, ◌||◌, nat_eq, List, [], ◌∷◌, ◌++◌, length, map}
use Rattle.in_open_nets.specs.declared.open_nets.OpenPoint.{OpenPoint}
use Rattle.in_open_nets.specs.declared.open_nets.OpenPoint.TheVariants.{Port, Free}
use Rattle.in_simple_deriving.specs.declared.plans.Fate.{Fate}
use Rattle.in_simple_deriving.specs.declared.plans.Fate.TheVariants.{Waits, Derived, Outside}
use Rattle.in_simple_deriving.specs.declared.plans.StackStep.{StackStep}
use Rattle.in_simple_deriving.specs.declared.plans.StackStep.TheVariants.{Link}
use Rattle.in_simple_deriving.specs.TaskStates.{TaskState, with_task}
use Rattle.in_simple_deriving.specs.declared.plans.Task.{Task}
use Rattle.in_simple_deriving.specs.declared.plans.Task.TheVariants.{Derive, Make}
use Rattle.in_open_nets.specs.Constructions.{IsIn}
use Rattle.in_open_nets.specs.Parts.{IsReached}
use Rattle.in_open_nets.specs.Splitting.{Linked}
use Rattle.in_open_nets.specs.OpenNets.{OpenNet, IsAgent, IsWire, IsOpenNet, class_in, open_graph}
use Rattle.in_open_nets.specs.Derivations.{is_port_in}
use Rattle.in_open_nets.specs.Stuck.{ComesAt, IsPart, ports_of, turn}
use Rattle.in_simple_deriving.specs.TakenOrder.{Comes, LinksAt, NothingAt, empties, part, turns}
use Rattle.in_simple_deriving.specs.Stacks.{Yields, Shape, shape, no_wires, PutsShapes}
use Rattle.in_simple_deriving.specs.Turns.{HeadedPart}
use Rattle.in_open_nets.specs.Members.{nodes_in}

-- the tasks put the net of n and of the nodes that are derived
abbrev pub net_of : ℕ → List Bool → Shape
net_of n done = shape (λ m. nat_eq m n || nodes_in done m) no_wires

abbrev pub PutsNet : OpenNet → ℕ → TaskState → Type 0
PutsNet o n p = PutsShapes o p.tasks (net_of n p.done ∷ [])

-- ---- the node at the other end of a wire

-- this part is the component of m
abbrev pub IsComponentOf : TaskState → ℕ → HeadedPart → Type 0
IsComponentOf p m c = (c.net ≡ p.net) × (length c.nodes ≡ length p.net.nodes) × IsReached p.net p.rest m c.nodes

abbrev pub HasFate : TaskState → ℕ → Fate → Type 0
HasFate p m (Waits c) = IsComponentOf p m c × IsIn m (nodes_in p.rest) × (nodes_in p.done m ≡ false)
HasFate p m Derived = IsIn m (nodes_in p.rest) × IsIn m (nodes_in p.done)
HasFate p m Outside = nodes_in p.rest m ≡ false

abbrev pub HasFateAt : TaskState → OpenPoint → Fate → Type 0
HasFateAt p q (Waits c) = (l : ℕ) × (k : ℕ) × (q ≡ Port l k) × IsComponentOf p l c × IsIn l (nodes_in p.rest) × (nodes_in p.done l ≡ false)
HasFateAt p q Derived = (l : ℕ) × (k : ℕ) × (q ≡ Port l k) × IsIn l (nodes_in p.rest) × IsIn l (nodes_in p.done)
HasFateAt p q Outside = is_port_in (nodes_in p.rest) q ≡ 0

-- .. of what is at the turn k
pub record HasFateOfTurn (p : TaskState) (k : ℕ) (f : Fate) : Type 0 where
  pub port : (i w : ℕ) (q : OpenPoint) → IsWire p.net w (Port p.node i) q → turn p.net p.node i ≡ k → HasFateAt p q f
  pub other : (m : ℕ) → m < length p.net.nodes → suc (ports_of p.net p.node) + m ≡ k → HasFate p m f

-- each node that is left is joined to one at a port of the node
abbrev pub AreTouched : TaskState → Type 0
AreTouched p = (m : ℕ) → IsIn m (nodes_in p.rest) → (i : ℕ) × (w : ℕ) × (l : ℕ) × (k : ℕ) × IsWire p.net w (Port p.node i) (Port l k) × Linked (open_graph p.net) (λ u. IsIn u (nodes_in p.rest)) l m

-- the component that waits is derived and joined; for another fate nothing changes
abbrev pub after_fate : StackStep → TaskState → Fate → TaskState
after_fate j p (Waits c) = with_task (with_task p (Derive c)) (Make j)
after_fate j p Derived = p
after_fate j p Outside = p

-- the point is a port of n up to i
abbrev pub LeadsBack : ℕ → ℕ → OpenPoint → Type 0
LeadsBack n i (Port l k) = (l ≡ n) × (k ≤ i)
LeadsBack n i (Free k) = ⊥

-- ---- the nets of an agent's classes

module _ (o : OpenNet) (rest : List Bool) (n : ℕ) where
  -- port i of n leads into the rest, to the component of m there
  abbrev pub Meets : ℕ → ℕ → Type 0
  Meets i m = (w : ℕ) × (l : ℕ) × (k : ℕ) × IsWire o w (Port n i) (Port l k) × Linked (open_graph o) (λ m. IsIn m (nodes_in rest)) l m

  -- wire w is at port i of n, and leads to no node of the rest
  abbrev pub LeadsOff : ℕ → ℕ → Type 0
  LeadsOff i w = (q : OpenPoint) × IsWire o w (Port n i) q × (is_port_in (nodes_in rest) q ≡ 0)

-- i is an auxiliary port of the agent n
pub record IsAuxiliaryPort (o : OpenNet) (n i : ℕ) : Type 0 where
  pub agent : IsAgent o n
  pub auxiliary : 0 < i
  pub port : i < ports_of o n

-- i is an auxiliary port below b
abbrev pub IsBelow : ℕ → ℕ → Type 0
IsBelow b i = (0 < i) × (i < b)

-- the nodes that class c's ports below b meet, with a Link of each wire that leads off
pub record IsClassShape (o : OpenNet) (rest : List Bool) (n b c : ℕ) (x : Shape) : Type 0 where
  pub nodes : (m : ℕ) → IsIn m x.nodes ↔ ((i : ℕ) × IsBelow b i × (class_in o n i ≡ c) × Meets o rest n i m)
  pub links : (w : ℕ) → IsIn w x.links ↔ ((i : ℕ) × IsBelow b i × (class_in o n i ≡ c) × LeadsOff o rest n i w)

-- .. for the classes from c on
abbrev pub AreClassShapes : OpenNet → List Bool → ℕ → ℕ → ℕ → List Shape → Type 0
AreClassShapes o rest n b c [] = Unit {0}
AreClassShapes o rest n b c (x ∷ xs) = IsClassShape o rest n b c x × AreClassShapes o rest n b (suc c) xs

-- the tasks put the nets of the first classes, as far as their ports below b go
pub record PutsClasses (o : OpenNet) (rest : List Bool) (n b begun : ℕ) (tasks : List Task) (done : List Bool) : Type 0 where
  pub shapes : List Shape
  pub puts : PutsShapes o tasks shapes
  pub many : length shapes ≡ begun
  pub each : AreClassShapes o rest n b 1 shapes
  pub most : (i : ℕ) → IsBelow b i → i < ports_of o n → class_in o n i ≤ begun
  pub done_is : (m : ℕ) → IsIn m (nodes_in done) ↔ ((i : ℕ) × IsBelow b i × Meets o rest n i m)

abbrev pub HasClasses : OpenNet → ℕ → ℕ → ℕ → TaskState → Type 0
HasClasses o n b begun p = PutsClasses o p.rest n b begun p.tasks p.done

-- some port below b is of the last of these classes, if there are any classes
abbrev pub IsBegunClass : OpenNet → ℕ → ℕ → ℕ → Type 0
IsBegunClass o n b begun = (begun ≡ 0) ⊎ ((i : ℕ) × IsBelow b i × (i < ports_of o n) × (class_in o n i ≡ begun))

-- a port adds the component that it meets, which is not derived yet, or the Link of a wire that leads off
pub record AddsPort (o : OpenNet) (n i : ℕ) (old new : TaskState) (x : Shape) : Type 0 where
  pub puts : (xs : List Shape) → PutsShapes o old.tasks xs → PutsShapes o new.tasks (xs ++ x ∷ [])
  pub nodes : (m : ℕ) → IsIn m x.nodes ↔ Meets o old.rest n i m
  pub links : (w : ℕ) → IsIn w x.links ↔ LeadsOff o old.rest n i w
  pub fresh : (m : ℕ) → IsIn m x.nodes → IsIn m (nodes_in old.done) → ⊥
  pub first : (w j : ℕ) → IsIn w x.links → IsWire o w (Port n i) (Port n j) → i < j
  pub done : (m : ℕ) → IsIn m (nodes_in new.done) ↔ (IsIn m (nodes_in old.done) ⊎ IsIn m x.nodes)

-- .. or nothing, if all nodes that it meets are derived, and its wire is of an earlier port
pub record AddsNothing (o : OpenNet) (n i : ℕ) (old new : TaskState) : Type 0 where
  pub same : new ≡ old
  pub met : (m : ℕ) → Meets o old.rest n i m → IsIn m (nodes_in old.done)
  pub past : (w : ℕ) → LeadsOff o old.rest n i w → (j : ℕ) × (j < i) × IsWire o w (Port n i) (Port n j)

abbrev pub WhatPort : OpenNet → ℕ → ℕ → TaskState → TaskState → Bool → Type 0
WhatPort o n i old new true = (x : Shape) × AddsPort o n i old new x
WhatPort o n i old new false = AddsNothing o n i old new

-- with a given number of empty nets
abbrev pub with_empty : ℕ → List Shape → List Shape
with_empty zero xs = xs
with_empty (suc k) xs = with_empty k xs ++ shape (λ n. false) no_wires ∷ []

-- .. which come on top of the tasks' nets, and nothing else changes
pub record Skips (count : ℕ) (old new : TaskState) : Type 0 where
  pub rest : new.rest ≡ old.rest
  pub done : new.done ≡ old.done
  pub puts : (o : OpenNet) → IsOpenNet o → (xs : List Shape) → PutsShapes o old.tasks xs → PutsShapes o new.tasks (with_empty count xs)

-- ---- the order of the tasks

-- the tasks yield the joints at the turns below k, and then these
abbrev pub TakesJoints : OpenNet → ℕ → ℕ → List StackStep → TaskState → Type 0
TakesJoints o n k more p = (js : List StackStep) → Yields o p.tasks js → (is : List StackStep) × Comes o (turns (nodes_in p.rest) n k) is × (js ≡ is ++ more)

-- the component of the turn k, or the Link of a wire there that leads away
pub data Brings (o : OpenNet) (t : ℕ → Bool) (n k : ℕ) : Task → Type 0 where
  a_component : (c : HeadedPart) → IsPart o n t (nodes_in c.nodes) → ComesAt o n (nodes_in c.nodes) k → Brings o t n k (Derive c)
  a_link : (w : ℕ) → LinksAt o t n k w → Brings o t n k (Make (Link w))

-- one more task for the component or Link of a turn, or none if the turn has nothing
abbrev pub WhatComes : OpenNet → ℕ → ℕ → TaskState → TaskState → Bool → Type 0
WhatComes o n k old new true = (task : Task) × (new.tasks ≡ old.tasks ++ task ∷ []) × Brings o (nodes_in old.rest) n k task
WhatComes o n k old new false = (new.tasks ≡ old.tasks) × NothingAt o (nodes_in old.rest) n k

-- `count` more Empties
abbrev pub WithEmpties : ℕ → TaskState → TaskState → Type 0
WithEmpties count old new = new.tasks ≡ old.tasks ++ map Make (empties count)

-- the tasks yield the joints of a part
abbrev pub TakesPart : OpenNet → (ℕ → Bool) → List Task → Type 0
TakesPart o s tasks = (js : List StackStep) → Yields o tasks js → Comes o (part s) js
