-- Sets of nodes that are in one piece.
use Rattle.std.specs.Prelude.{◌≡◌, ℕ, ◌<◌, length}
use Rattle.in_open_nets.specs.Constructions.{IsIn}
use Rattle.in_open_nets.specs.Members.{NodeBits, missing, nodes_in}
use Rattle.in_open_nets.specs.OpenNets.{OpenNet, open_graph}
use Rattle.in_open_nets.specs.Parts.{IsRest}
use Rattle.in_open_nets.specs.Splitting.{Linked}

module _ (o : OpenNet) (within : NodeBits) where
  -- joined through nodes of the set
  abbrev pub AreJoinedWithin : ℕ → ℕ → Type 0
  AreJoinedWithin = Linked (open_graph o) (λ m. IsIn m (nodes_in within))

  -- .. any two of these
  abbrev pub AreTogether : NodeBits → Type 0
  AreTogether these = (k l : ℕ) → IsIn k (nodes_in these) → IsIn l (nodes_in these) → AreJoinedWithin k l

-- any two nodes of the set are joined through it
abbrev pub IsOnePiece : OpenNet → NodeBits → Type 0
IsOnePiece o s = AreTogether o s s

-- a part that lacks a node is a component, and so in one piece; the whole net may be in several
abbrev pub IsPieceOrWhole : OpenNet → NodeBits → Type 0
IsPieceOrWhole o s = 0 < missing s → IsOnePiece o s

-- s is a set that is in one piece, or the whole net, without n
abbrev pub IsLeftOf : OpenNet → ℕ → NodeBits → Type 0
IsLeftOf o n s = (set : NodeBits) × (length set ≡ length s) × IsRest n set s × IsPieceOrWhole o set
