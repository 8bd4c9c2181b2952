-- Queues of active pairs, by the numbers of their two agents, the constructor first. The pairs of a net as built are in the order of their
-- wires: this is this project's own choice.
use Rattle.std.specs.Prelude.{◌≡◌, ◌<◌, ℕ, List, Some, slice_get}
use Rattle.in_symbols.specs.Tables.{Tables}
use Rattle.in_net.specs.declared.nets.AgentNo.{AgentNo}
use Rattle.in_net.specs.ActivePairs.{IsActivePair, JoinsAgents}
use Rattle.in_net.specs.Parts.{Parts}

-- a pair of numbers as a pair of agents, and back
abbrev pub agents_at : ℕ × ℕ → AgentNo × AgentNo
agents_at q = (record { 0 = q.0 }, record { 0 = q.1 })

abbrev pub numbers_of : AgentNo × AgentNo → ℕ × ℕ
numbers_of q = (q.0.0, q.1.0)

-- two agents under other numbers
abbrev pub both : (ℕ → ℕ) → ℕ × ℕ → ℕ × ℕ
both f q = (f q.0, f q.1)

-- these are the active pairs of the net, each once, the constructor first
pub record IsQueueOf (t : Tables) (n : Parts) (queue : List (ℕ × ℕ)) : Type 0 where
  pub pairs : (k : ℕ) (q : ℕ × ℕ) → slice_get queue k ≡ Some q → IsActivePair t n (agents_at q)
  pub all : (q : AgentNo × AgentNo) → IsActivePair t n q → (k : ℕ) × (slice_get queue k ≡ Some (numbers_of q))
  pub once : (j k : ℕ) (q : ℕ × ℕ) → slice_get queue j ≡ Some q → slice_get queue k ≡ Some q → j ≡ k

-- ---- the pairs of a net as built

-- the wire of that number joins the principal ports of the two
abbrev pub JoinsPair : Parts → ℕ → ℕ × ℕ → Type 0
JoinsPair n w q = JoinsAgents n w (agents_at q)

-- the wire of that number joins the principal ports of no two agents
abbrev pub JoinsNoPair : Parts → ℕ → Type 0
JoinsNoPair n w = (q : ℕ × ℕ) → JoinsPair n w q → ⊥

-- these pairs are in the order of their wires. (The wires of a net as built are in the order of their places.)
abbrev pub AreInOrder : Parts → List (ℕ × ℕ) → Type 0
AreInOrder n queue = (j k v w : ℕ) (p q : ℕ × ℕ) → j < k → slice_get queue j ≡ Some p → slice_get queue k ≡ Some q → JoinsPair n v p → JoinsPair n w q → v < w

-- the active pairs of a program's net, or of a right member, each once, the constructor first, each on a listed wire, and in the order of
-- these
pub record IsFirstQueue (t : Tables) (n : Parts) (queue : List (ℕ × ℕ)) : Type 0 where
  pub pairs : IsQueueOf t n queue
  pub wires : (k : ℕ) (q : ℕ × ℕ) → slice_get queue k ≡ Some q → (w : ℕ) × JoinsPair n w q
  pub order : AreInOrder n queue
