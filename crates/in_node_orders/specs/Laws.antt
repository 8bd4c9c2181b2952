-- The laws of the one order, over the definitions alone.
use Rattle.std.specs.Prelude.{◌≡◌, ◌⊎◌, ◌↔◌, ℕ, ◌<◌, false, List}
use Rattle.in_open_nets.specs.Constructions.{IsIn}
use Rattle.in_open_nets.specs.OpenNets.{OpenNet, NodeTest, IsNode, IsOpenNet, open_graph}
use Rattle.in_open_nets.specs.Splitting.{IsComponent, Splits, SplitsAt}
use Rattle.in_open_nets.specs.Stuck.{FirstStuck}
use Rattle.in_node_orders.specs.Orders.{IsFirstOrNone, IsMet, IsOrder, first_in}

-- a node that splits a set splits each smaller set
abbrev pub SplitsSmallerSets : Type 0
SplitsSmallerSets = (o : OpenNet) (s c : NodeTest) (n : ℕ) → ((m : ℕ) → IsIn m c → IsIn m s) → SplitsAt (open_graph o) n s → SplitsAt (open_graph o) n c

-- .. and it splits a set exactly when it splits its component there
abbrev pub SplitsInItsComponent : Type 0
SplitsInItsComponent = (o : OpenNet) (s c : NodeTest) (n : ℕ) → IsComponent (open_graph o) (λ m. IsIn m s) c → IsIn n c → SplitsAt (open_graph o) n c ↔ SplitsAt (open_graph o) n s

-- a set has at most one order
abbrev pub NodeOrdersAreOne : Type 0
NodeOrdersAreOne = (o : OpenNet) → IsOpenNet o → (s r t : NodeTest) (ns ms : List ℕ) → IsOrder o s ns r → IsOrder o s ms t → (ns ≡ ms) × (r ≡ t)

-- in each part that is met, the first node of the order is the first one that splits it; and if none is there, none splits it
abbrev pub OneOrderForAllParts : Type 0
OneOrderForAllParts = (o : OpenNet) → IsOpenNet o → (s rest : NodeTest) (ns : List ℕ) → IsOrder o s ns rest → (p : NodeTest) → IsMet o s p → IsFirstOrNone o p (first_in p ns)

-- the nodes of s are nodes of the net
abbrev pub AreNodes : OpenNet → NodeTest → Type 0
AreNodes o s = (n : ℕ) → IsIn n s → IsNode o n

-- a set splits exactly when its order leaves no node
abbrev pub SplitsWhereAllTaken : Type 0
SplitsWhereAllTaken = (o : OpenNet) → IsOpenNet o → (s rest : NodeTest) (ns : List ℕ) → AreNodes o s → IsOrder o s ns rest → Splits (open_graph o) (λ m n. m < n) s ↔ ((n : ℕ) → rest n ≡ false)

-- the first stuck sub-net is all that the order leaves, or a component of it
abbrev pub FirstStuckIsLeft : Type 0
FirstStuckIsLeft = (o : OpenNet) → IsOpenNet o → (s rest t : NodeTest) (ns : List ℕ) → IsOrder o s ns rest → FirstStuck o s t → (t ≡ rest) ⊎ IsComponent (open_graph o) (λ m. IsIn m rest) t
