-- One order of nodes for all parts: the first node that splits what is left is taken out, again and again. This project's own.
use Rattle.std.specs.Prelude.{◌↔◌, ℕ, cond, nat_lt, List, [], ◌∷◌, length, Option, Some, None, MatchOption}
use Rattle.in_open_nets.specs.Constructions.{IsIn}
use Rattle.in_open_nets.specs.OpenNets.{OpenNet, NodeTest, open_graph}
use Rattle.in_open_nets.specs.Splitting.{SplitsAt, Without}
use Rattle.in_open_nets.specs.Stuck.{IsFirstToSplit, IsPart}

-- no node of s splits it
abbrev pub NoNodeSplits : OpenNet → NodeTest → Type 0
NoNodeSplits o s = (n : ℕ) → IsIn n s → SplitsAt (open_graph o) n s → ⊥

-- t is s without n
abbrev pub IsLeft : ℕ → NodeTest → NodeTest → Type 0
IsLeft n s t = (m : ℕ) → IsIn m t ↔ Without n s m

-- these nodes are taken out of s in turn, each of them the first one that splits what is left; then no node splits the rest
pub data IsOrder (o : OpenNet) : NodeTest → List ℕ → NodeTest → Type 0 where
  ends : (s : NodeTest) → NoNodeSplits o s → IsOrder o s [] s
  takes : (s t rest : NodeTest) (n : ℕ) (ns : List ℕ) → IsFirstToSplit o n s → IsLeft n s t → IsOrder o t ns rest → IsOrder o s (n ∷ ns) rest

-- the nodes of the net
abbrev pub all_nodes : OpenNet → NodeTest
all_nodes o n = nat_lt n (length o.nodes)

-- these are the nodes that are taken out of the whole net in turn; the others are the rest
abbrev pub IsNodeOrder : OpenNet → List ℕ → Type 0
IsNodeOrder o ns = (rest : NodeTest) × IsOrder o (all_nodes o) ns rest

-- the parts that deriving s meets: s itself, and each component of such a part without the first node that splits it
pub data IsMet (o : OpenNet) : NodeTest → NodeTest → Type 0 where
  itself : (s : NodeTest) → IsMet o s s
  piece : (s p c : NodeTest) (n : ℕ) → IsMet o s p → IsFirstToSplit o n p → IsPart o n p c → IsMet o s c

-- the first of these nodes that is in p
abbrev pub first_in : NodeTest → List ℕ → Option ℕ
first_in p [] = None
first_in p (n ∷ ns) = cond (p n) (Some n) (first_in p ns)

-- this is the first node that splits p, or none does
abbrev pub IsFirstOrNone : OpenNet → NodeTest → Option ℕ → Type 0
IsFirstOrNone o p found = MatchOption found (NoNodeSplits o p) (λ n. IsFirstToSplit o n p)
