-- The laws that interacting, the list of active pairs and the new pairs have one result, and on the active pairs after an interaction.
use Rattle.std.specs.Prelude.{◌≡◌, ◌≢◌, ◌⊎◌, ◌↔◌, ℕ, List, Some, slice_get}
use Rattle.in_symbols.specs.Tables.{Tables}
use Rattle.in_net.specs.ActivePairs.{IsActivePair, ArePairsOf}
use Rattle.in_interaction.specs.Interacting.{unused, CanInteract, MayInteract, Interacts, InteractsAs}
use Rattle.in_interaction.specs.Made.{AreMadeOverEnds, AreMade, IsOwn}
use Rattle.in_net.specs.Nets.{IsNet, net_of, signature_of}
use Rattle.in_net.specs.Parts.{Parts, IsWhole}
use Rattle.in_net.specs.Rules.{RuleParts}
use Rattle.in_net.specs.declared.nets.AgentNo.{AgentNo}

-- the net after an interaction is determined by the net before, the rule and the pair: agents, their partners, free ends, and the
-- numbers of the wires
abbrev pub InteractionsAreOne : Type 0
InteractionsAreOne = (n : Parts) (r : RuleParts) (a b : AgentNo) (m k : Parts) → MayInteract n r a b → IsWhole m → IsWhole k → Interacts n r a b m → Interacts n r a b k → m ≡ k

-- the list of active pairs is determined by the tables and the net, its order and that of each pair included
abbrev pub PairsAreListedOnce : Type 0
PairsAreListedOnce = (t : Tables) (n : Parts) (ps qs : List (AgentNo × AgentNo)) → ArePairsOf t n ps → ArePairsOf t n qs → ps ≡ qs

-- .. and so is the list of the pairs that an interaction makes
abbrev pub MadePairsAreListedOnce : Type 0
MadePairsAreListedOnce = (t : Tables) (n : Parts) (r : RuleParts) (a b : AgentNo) (name : ℕ → ℕ) (ps qs : List (AgentNo × AgentNo)) → AreMade t n r a b name ps → AreMade t n r a b name qs → ps ≡ qs

-- an active pair of two other agents than these
abbrev pub IsOtherPair : Tables → Parts → AgentNo → AgentNo → AgentNo × AgentNo → Type 0
IsOtherPair t n a b q = IsActivePair t n q × (q.0 ≢ a) × (q.0 ≢ b) × (q.1 ≢ a) × (q.1 ≢ b)

-- the active pairs after an interaction, for any names of the new agents, are those of other agents, the pairs that it makes over
-- boundary ends, and the right member's own
abbrev pub PairsAreKeptOrMade : Type 0
PairsAreKeptOrMade = (t : Tables) (n : Parts) (r : RuleParts) (a b : AgentNo) (name : ℕ → ℕ) (m : Parts) (made : List (AgentNo × AgentNo)) →
    IsNet (signature_of t) (net_of n) → IsNet (signature_of t) (net_of r.member) → CanInteract t n r a b → InteractsAs t n r a b name m → AreMadeOverEnds t n r a b name made →
    (q : AgentNo × AgentNo) → IsActivePair t m q ↔ (IsOtherPair t n a b q ⊎ ((k : ℕ) × (slice_get made k ≡ Some q)) ⊎ IsOwn t r name q)

-- `interact` does an interaction: the new agents have the least numbers that the old net doesn't have
abbrev pub LeastNumbersAreNames : Type 0
LeastNumbersAreNames = (t : Tables) (n : Parts) (r : RuleParts) (a b : AgentNo) (m : Parts) → CanInteract t n r a b → Interacts n r a b m → InteractsAs t n r a b (unused n.cells) m

-- an agent is in at most one active pair
abbrev pub PairsAreApart : Type 0
PairsAreApart = (t : Tables) (n : Parts) (p q : AgentNo × AgentNo) → IsWhole n → IsActivePair t n p → IsActivePair t n q → (p.0 ≡ q.0) ⊎ (p.0 ≡ q.1) ⊎ (p.1 ≡ q.0) ⊎ (p.1 ≡ q.1) → p ≡ q
