-- The agents of a part, gathered before it is split off. This project's own choice.
use Rattle.std.specs.Prelude.{◌≡◌, ◌<◌, ℕ, Bool, true, List, length, Some, IsSome, slice_get}
use Rattle.in_arena.specs.Changes.{AreListedOnce}
use Rattle.in_arena.specs.declared.content.CellNo.{CellNo}
use Rattle.in_arena.specs.declared.content.End.{End}
use Rattle.in_arena.specs.declared.content.End.TheVariants.{Cell, Free}
use Rattle.in_net.specs.declared.nets.Point.TheVariants as point
use Rattle.in_net.specs.Parts.{IsPointOf, symbol_in}
use Rattle.in_phases.specs.declared.branch.Branch.{Branch}
use Rattle.in_phases.specs.declared.branch.OpenPort.{OpenPort}
use Rattle.in_reducer.specs.Machines.{MachineParts, parts_of}

-- the agent exists
abbrev pub HasAgent : MachineParts → ℕ → Type 0
HasAgent m c = IsSome (symbol_in (parts_of m) c)

-- .. and has this place
abbrev pub AgentHasPlace : MachineParts → ℕ → ℕ → Type 0
AgentHasPlace m c i = IsPointOf (parts_of m) (point.Port (record { 0 = c }) i)

-- these are places of agents
abbrev pub HavePlaces : MachineParts → List OpenPort → Type 0
HavePlaces m ports = (k : ℕ) (p : OpenPort) → slice_get ports k ≡ Some p → AgentHasPlace m p.cell.0 p.place

-- if an end leads to an agent, the agent exists
abbrev pub LeadsSomewhere : MachineParts → End → Type 0
LeadsSomewhere m (Cell c i) = HasAgent m c.0
LeadsSomewhere m (Free k) = Unit {0}

-- these are agents of the net, each listed once, and only their numbers are marked
pub record AreOfBranch (m : MachineParts) (agents : List CellNo) (marks : List Bool) : Type 0 where
  pub there : (k : ℕ) (c : CellNo) → slice_get agents k ≡ Some c → HasAgent m c.0
  pub once : AreListedOnce agents
  pub marked : (k : ℕ) (c : CellNo) → slice_get agents k ≡ Some c → slice_get marks c.0 ≡ Some true
  pub listed : (y : ℕ) → slice_get marks y ≡ Some true → (k : ℕ) × (slice_get agents k ≡ Some (record { 0 = y }))
  pub inside : (y : ℕ) → HasAgent m y → y < length marks

abbrev pub IsBranch : MachineParts → Branch → Type 0
IsBranch m b = AreOfBranch m b.agents.items b.marks.items
