-- The first stuck sub-net. This project's own choice: the one that stops a procedure which takes the first splitting node out, and continues with
-- each component that remains.
use Rattle.std.specs.Prelude.{◌≡◌, ◌⊎◌, ◌↔◌, ℕ, suc, ◌+◌, ◌<◌, ◌≤◌, cond, nat_eq, List, [], ◌∷◌, length, slice_get, Some, None}
use Rattle.in_syntax.specs.declared.places.Place.{Place}
use Rattle.in_open_nets.specs.declared.derivations.Stuck.{Stuck as StuckNet}
use Rattle.in_open_nets.specs.declared.derivations.Undone.{Undone}
use Rattle.in_open_nets.specs.declared.derivations.Undone.TheVariants.{Stuck, Memory}
use Rattle.in_open_nets.specs.declared.open_nets.Node.TheVariants.{AgentNode, ClassNode}
use Rattle.in_open_nets.specs.declared.open_nets.OpenPoint.TheVariants.{Port}
use Rattle.in_open_nets.specs.Constructions.{IsIn}
use Rattle.in_open_nets.specs.Splitting.{Without, IsComponent, IsFirstSplitting, Splits, IsStuck}
use Rattle.in_open_nets.specs.OpenNets.{OpenNet, NodeTest, IsDerivable, IsNode, IsWire, node_place_in, open_graph}

module _ (o : OpenNet) (n : ℕ) where
  -- port i of n is wired to a node of c
  abbrev pub Touches : NodeTest → ℕ → Type 0
  Touches c i = (w : ℕ) × (l : ℕ) × (k : ℕ) × IsWire o w (Port n i) (Port l k) × IsIn l c

  abbrev pub ports_of : ℕ
  ports_of = elim (slice_get o.nodes n) [ None ↦ 0 | Some m ↦ length m.class_of ]

  -- a node's ports have their turns by place, but an agent's principal port comes last
  abbrev pub turn : ℕ → ℕ
  turn i = elim (slice_get o.nodes n) [ None ↦ i | Some m ↦ elim m.node [ AgentNode y ↦ cond (nat_eq i 0) (length m.class_of) i | ClassNode y c ↦ i ] ]

  -- the turn of a component: that of the first port of n that touches it; then come the components that n doesn't touch, by their first nodes
  abbrev pub ComesAt : NodeTest → ℕ → Type 0
  ComesAt c k = ((i : ℕ) × Touches c i × (turn i ≡ k) × ((j : ℕ) → Touches c j → k ≤ turn j))
      ⊎ (((i : ℕ) → Touches c i → ⊥) × ((m : ℕ) × IsIn m c × (suc ports_of + m ≡ k) × ((l : ℕ) → IsIn l c → m ≤ l)))

module _ (o : OpenNet) (n : ℕ) (s : NodeTest) where
  -- n is the first node of s, by number, that splits it
  abbrev pub IsFirstToSplit : Type 0
  IsFirstToSplit = IsFirstSplitting (open_graph o) (λ m n. m < n) n s

  -- c is a component of s with n taken out
  abbrev pub IsPart : NodeTest → Type 0
  IsPart c = IsComponent (open_graph o) (Without n s) c

  -- with n taken out of s, the components whose turns come before k split
  abbrev pub EarlierSplit : ℕ → Type 0
  EarlierSplit k = (d : NodeTest) (l : ℕ) → IsPart d → ComesAt o n d l → l < k → Splits (open_graph o) (λ m n. m < n) d

-- t is the first stuck sub-net of s: s itself, if it has nodes and none splits it; otherwise that of the first component that doesn't split
-- once the first splitting node is taken out
pub data FirstStuck (o : OpenNet) : NodeTest → NodeTest → Type 0 where
  whole : (s : NodeTest) → IsStuck (open_graph o) s → FirstStuck o s s
  within : (s : NodeTest) (n : ℕ) (c : NodeTest) (k : ℕ) (t : NodeTest) → IsFirstToSplit o n s → IsPart o n s c → ComesAt o n c k → EarlierSplit o n s k → FirstStuck o c t → FirstStuck o s t

-- .. of the whole open net
abbrev pub IsFirstStuck : OpenNet → NodeTest → Type 0
IsFirstStuck o t = (s : NodeTest) × ((n : ℕ) → IsIn n s ↔ IsNode o n) × FirstStuck o s t

-- ---- the result

-- n is an element of the list
abbrev pub Among : ℕ → List ℕ → Type 0
Among n [] = ⊥
Among n (m ∷ ms) = (n ≡ m) ⊎ Among n ms

-- the numbers rise, and are those of the set
abbrev pub RisesThrough : ℕ → List ℕ → Type 0
RisesThrough low [] = Unit {0}
RisesThrough low (n ∷ ns) = (low ≤ n) × RisesThrough (suc n) ns

pub record IsListed (set : NodeTest) (ns : List ℕ) : Type 0 where
  pub rises : RisesThrough 0 ns
  pub all : (n : ℕ) → IsIn n set ↔ Among n ns

-- there is no derivation, and the nodes are those of the first stuck sub-net
abbrev pub IsStuckNet : OpenNet → StuckNet → Type 0
IsStuckNet o s = (IsDerivable o → ⊥) × ((t : NodeTest) × IsFirstStuck o t × IsListed t s.nodes)

abbrev pub IsUndone : OpenNet → Undone → Type 0
IsUndone o (Stuck s) = IsStuckNet o s
IsUndone o (Memory e) = Unit {0}

-- this is the place of the first node of the first stuck sub-net
pub record IsStuckAt (o : OpenNet) (p : Place) : Type 0 where
  pub stuck : NodeTest
  pub is_first : IsFirstStuck o stuck
  pub node : ℕ
  pub here : IsIn node stuck
  pub least : (m : ℕ) → IsIn m stuck → node ≤ m
  pub place : node_place_in o node ≡ Some p
