-- The laws of graphs that grow edge by edge, over the definitions alone.
use Rattle.std.specs.Prelude.{◌≡◌, ◌≢◌, ◌⊎◌, ◌↔◌, ℕ, suc, ◌<◌, Bool, false, List, [], ◌∷◌, ◌++◌, length}
use Rattle.in_simple_bridges.specs.Walks.{EdgeWalk, HasTwoEnds, IsOnCycle, Other}
use Rattle.in_growing_graphs.specs.Blobs.{AreBlobs, AreInOneBlob, AreJoinedTwice, CoversWay, with_value}

-- an edge is on a cycle exactly when its ends are joined by two ways
abbrev pub TwoWaysAreCycles : Type 0
TwoWaysAreCycles = (edges : List (ℕ × ℕ)) (e a b : ℕ) → HasTwoEnds edges e a b → IsOnCycle edges e ↔ AreJoinedTwice edges a b

-- the graph with an edge from a to b
module _ (edges : List (ℕ × ℕ)) (a b : ℕ) where
  abbrev pub added : List (ℕ × ℕ)
  added = edges ++ (a, b) ∷ []

  -- a walk from u to v without edge e, by the edge from a to b or not
  abbrev pub HasWalk : (e u v : ℕ) → Type 0
  HasWalk e u v = EdgeWalk ℕ (Other edges e) u v

  abbrev pub HasWalkOver : (e u v : ℕ) → Type 0
  HasWalkOver e u v = HasWalk e u v ⊎ (HasWalk e u a × HasWalk e b v) ⊎ (HasWalk e u b × HasWalk e a v)

-- with one more edge, a walk without an earlier one is a walk before, or two, to one end of the new edge and from the other
abbrev pub GrownWalks : Type 0
GrownWalks = (edges : List (ℕ × ℕ)) (a b e u v : ℕ) → e ≢ length edges → EdgeWalk ℕ (Other (added edges a b) e) u v ↔ HasWalkOver edges a b e u v

-- an edge is on a cycle exactly when it is within a blob
abbrev pub BlobsDecideCycles : Type 0
BlobsDecideCycles = (edges : List (ℕ × ℕ)) (up via depth : ℕ → ℕ) (covered : ℕ → Bool) → AreBlobs edges up via depth covered → (k u v : ℕ) → HasTwoEnds edges k u v → IsOnCycle edges k ↔ AreInOneBlob up covered u v

-- without edges each vertex is a blob
abbrev pub NoEdgeHasBlobs : Type 0
NoEdgeHasBlobs = (via depth : ℕ → ℕ) → AreBlobs [] (λ x. 0) via depth (λ x. false)

-- an edge within a blob changes none
abbrev pub BlobsStay : Type 0
BlobsStay = (edges : List (ℕ × ℕ)) (up via depth : ℕ → ℕ) (covered : ℕ → Bool) (a b : ℕ) → AreBlobs edges up via depth covered → AreInOneBlob up covered a b → AreBlobs (added edges a b) up via depth covered

-- an edge from a root to a vertex that isn't as deep hangs the root from that vertex
abbrev pub BlobsAreLinked : Type 0
BlobsAreLinked = (edges : List (ℕ × ℕ)) (up via depth : ℕ → ℕ) (covered : ℕ → Bool) (a b : ℕ) → AreBlobs edges up via depth covered → up a ≡ 0 → depth b < depth a →
    AreBlobs (added edges a b) (with_value up a (suc b)) (with_value via a (length edges)) depth covered

-- an edge between two vertices of a tree covers the way between them
abbrev pub BlobsAreMerged : Type 0
BlobsAreMerged = (edges : List (ℕ × ℕ)) (up via depth : ℕ → ℕ) (old new : ℕ → Bool) (a b : ℕ) → AreBlobs edges up via depth old → CoversWay up old new a b → AreBlobs (added edges a b) up via depth new
