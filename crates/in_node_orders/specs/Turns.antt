-- The turns of nodes in an order.
use Rattle.std.specs.Prelude.{◌≡◌, ◌⊎◌, ℕ, ◌<◌, ◌&&◌, List, length, slice_get, Some, nat_lt, not}
use Rattle.in_simple_bridges.specs.Spans.{at}
use Rattle.in_open_nets.specs.OpenNets.{OpenNet, NodeTest}

-- these are numbers of nodes, each of which comes once
pub record AreDistinct (count : ℕ) (nodes : List ℕ) : Type 0 where
  pub below : (t : ℕ) → t < length nodes → at nodes t < count
  pub once : (s t : ℕ) → s < t → t < length nodes → at nodes s ≡ at nodes t → ⊥

-- a node's turn is its index in the order, which it has once; that of any other of the `count` nodes is the length of the order: as far as the
-- turns below b are given
pub record AreTurnsBelow (count : ℕ) (nodes : List ℕ) (b : ℕ) (turns : List ℕ) : Type 0 where
  pub size : length turns ≡ count
  pub of_node : (i n : ℕ) → i < b → slice_get nodes i ≡ Some n → (n < count) × (at turns n ≡ i)
  pub of_turn : (n : ℕ) → n < count → (at turns n ≡ length nodes) ⊎ ((at turns n < b) × (slice_get nodes (at turns n) ≡ Some n))

-- .. and all are
abbrev pub AreTurns : ℕ → List ℕ → List ℕ → Type 0
AreTurns count nodes turns = AreTurnsBelow count nodes (length nodes) turns

-- the nodes that are left at that turn: those of it and of later ones
abbrev pub left_at : OpenNet → List ℕ → ℕ → NodeTest
left_at o turns i n = nat_lt n (length o.nodes) && not (nat_lt (at turns n) i)
