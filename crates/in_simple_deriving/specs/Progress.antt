-- The invariant of a plan from turn to turn.
use Rattle.std.specs.Prelude.{◌≡◌, ℕ, suc, ◌+◌, ◌-◌, ◌<◌, ◌≤◌, Bool, List, [], length}
use Rattle.in_simple_deriving.specs.TaskStates.{TaskState}
use Rattle.in_open_nets.specs.OpenNets.{OpenNet, IsAgent, IsOrderly, class_in}
use Rattle.in_simple_deriving.specs.Planned.{HasClasses, IsBegunClass, PutsNet, TakesJoints}
use Rattle.in_simple_deriving.specs.Procedure.{IsPlanAtTurn}
use Rattle.in_open_nets.specs.Members.{nodes_in}
use Rattle.in_open_nets.specs.Stuck.{ComesAt, IsPart, ports_of}
use Rattle.in_simple_deriving.specs.TakenOrder.{before}

-- the progress of a plan: for the nodes of a net that are left without one node, to a turn of that node
pub record Progress : Type 0 where
  pub net : OpenNet
  pub node : ℕ
  pub rest : List Bool
  pub next : ℕ

abbrev pub progress : OpenNet → ℕ → List Bool → ℕ → Progress
progress o n rest k = record { net = o; node = n; rest = rest; next = k }

abbrev pub until : Progress → ℕ → Progress
until s k = progress s.net s.node s.rest k

-- one turn further
abbrev pub later : Progress → Progress
later s = until s (s.next + 1)

-- after the node's ports, and after all nodes that it doesn't touch
abbrev pub after_ports : Progress → Progress
after_ports s = until s (suc (ports_of s.net s.node))

abbrev pub at_end : Progress → Progress
at_end s = until s (suc (ports_of s.net s.node) + length s.net.nodes)

-- no component has a turn any more
abbrev pub HasNoTurnLeft : Progress → Type 0
HasNoTurnLeft s = (d : ℕ → Bool) (l : ℕ) → IsPart s.net s.node (nodes_in s.rest) d → ComesAt s.net s.node d l → s.next ≤ l → ⊥

module _ (o : OpenNet) (n : ℕ) where
  -- nothing is planned yet
  pub record StartsPlan (p : TaskState) : Type 0 where
    pub orderly : IsOrderly o
    pub node : n < length o.nodes
    pub plan : IsPlanAtTurn o n 0 p
    pub start : p.tasks ≡ []

  -- the nets of the first classes of an agent are planned, as far as its ports below b go
  pub record PlansClasses (b begun : ℕ) (p : TaskState) : Type 0 where
    pub orderly : IsOrderly o
    pub node : n < length o.nodes
    pub agent : IsAgent o n
    pub auxiliary : 0 < b
    pub plan : IsPlanAtTurn o n b p
    pub classes : HasClasses o n b begun p
    pub first : IsBegunClass o n b begun
    pub last : begun ≡ class_in o n (b - 1)
    pub takes : 0 < ports_of o n → TakesJoints o n b [] p
    pub none : ports_of o n ≡ 0 → TakesJoints o n 0 [] p

  -- one net is planned, of the node and of the components that come before the turn k
  pub record PlansNet (k : ℕ) (p : TaskState) : Type 0 where
    pub orderly : IsOrderly o
    pub node : n < length o.nodes
    pub plan : IsPlanAtTurn o n k p
    pub net : PutsNet o n p
    pub takes : TakesJoints o n k (before o n k) p
