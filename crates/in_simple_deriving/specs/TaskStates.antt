-- What contracts see of a plan.
use Rattle.std.specs.Prelude.{ℕ, Bool, false, ◌||◌, List, [], ◌∷◌, ◌++◌, length}
use Rattle.in_simple_deriving.specs.declared.plans.Task.{Task}
use Rattle.in_simple_deriving.specs.declared.plans.Task.TheVariants.{Derive, Make}
use Rattle.in_open_nets.specs.Members.{nodes_in}
use Rattle.in_open_nets.specs.OpenNets.{OpenNet}
use Rattle.in_simple_deriving.specs.Heads.{last_turn}
use Rattle.in_simple_deriving.specs.Turns.{NodeOrder, rest_of, tests_below}

-- the nodes of the tasks' parts
abbrev pub pending_in : List Task → ℕ → Bool
pending_in [] m = false
pending_in (Derive c ∷ ts) m = nodes_in c.nodes m || pending_in ts m
pending_in (Make x ∷ ts) m = pending_in ts m

-- the tasks of a part without one node; how many turns that has, the nodes that are left, and those that the tasks derive
pub record TaskState : Type 0 where
  pub net : OpenNet
  pub node : ℕ
  pub turns : ℕ
  pub tasks : List Task
  pub rest : List Bool
  pub done : List Bool

abbrev pub state_of : NodeOrder → ℕ → List Task → TaskState
state_of x n ts = record { net = x.net; node = n; turns = last_turn x n; tasks = ts; rest = rest_of x n; done = tests_below (length x.net.nodes) (pending_in ts) }

-- a task derives these too
abbrev pub also : OpenNet → Task → List Bool → List Bool
also o (Derive c) done = tests_below (length o.nodes) (λ m. nodes_in c.nodes m || nodes_in done m)
also o (Make x) done = done

-- with one more task
abbrev pub with_task : TaskState → Task → TaskState
with_task p t = record { net = p.net; node = p.node; turns = p.turns; tasks = p.tasks ++ t ∷ []; rest = p.rest; done = also p.net t p.done }
