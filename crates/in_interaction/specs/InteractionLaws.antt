-- The laws of interactions, over the definitions alone.
use Rattle.std.specs.Prelude.{◌≡◌, ◌≢◌, ◌⊎◌, ℕ, List, ◌∷◌, IsSome}
use Rattle.in_interaction.specs.Ahead.{MeetsPair, WaitsAt}
use Rattle.in_base.specs.Graphs.{Passage, CrossingCircle, ViciousCircle}
use Rattle.in_net.specs.Graphs.{graph_of}
use Rattle.in_net.specs.Interactions.{Redex, IsRedex, IsNaming, IsStep, ClosedPath, class_node, open_member}
use Rattle.in_net.specs.Nets.{Signature, AreClasses, Net, IsNet}
use Rattle.in_interaction.specs.Pieces.{IsOuterPiece, PieceCycle, IsMadeOf, IsPassage, ClosedWalk}
use Rattle.std.specs.List.{AllByRecursion}

-- an interaction has a result, and it is a net
abbrev pub StepExists : Type 0
StepExists = (sig : Signature) (n : Net ℕ) (x : Redex ℕ ℕ) (name : ℕ → ℕ) → IsNet sig n → IsNet sig x.member → IsRedex sig n x → IsNaming n x name →
    (after : Net ℕ) × IsStep sig n x name after × IsNet sig after

-- a crossing circle after an interaction falls into pieces outside and inside, cut at its boundary ends. The agents on them are those of
-- the circle, each once
abbrev pub CirclesFallApart : Type 0
CirclesFallApart = (sig : Signature) (n : Net ℕ) (x : Redex ℕ ℕ) (name : ℕ → ℕ) (after : Net ℕ) → AreClasses sig → IsNet sig n → IsNet sig x.member → IsRedex sig n x → IsStep sig n x name after →
    (circle : CrossingCircle (graph_of sig after)) → IsMadeOf sig n x name (circle.first ∷ circle.rest)

-- if the net before has no crossing circle, a walk round the pair joins two boundary ends of one class node
abbrev pub OuterPiecesArePassages : Type 0
OuterPiecesArePassages = (sig : Signature) (n : Net ℕ) (x : Redex ℕ ℕ) → AreClasses sig → IsNet sig n → IsRedex sig n x → (CrossingCircle (graph_of sig n) → ⊥) →
    (e f : ℕ) (ps : List (Passage ℕ)) → IsOuterPiece sig n x e f ps → (class_node sig x e ≡ class_node sig x f) × (e ≢ f)

-- .. so that a cycle of pieces leaves a closed walk of the open right member
abbrev pub CyclesLeaveWalks : Type 0
CyclesLeaveWalks = (sig : Signature) (n : Net ℕ) (x : Redex ℕ ℕ) → (r : PieceCycle sig n x) → AllByRecursion (IsPassage sig x) (r.first ∷ r.rest) → ClosedWalk sig x

-- a closed walk of the open right member shortens to a crossing circle
abbrev pub ClosedWalksShorten : Type 0
ClosedWalksShorten = (sig : Signature) (x : Redex ℕ ℕ) → ClosedWalk sig x → CrossingCircle (open_member sig x)

-- an interaction makes no crossing circle
abbrev pub NoNewCircle : Type 0
NoNewCircle = (sig : Signature) (n : Net ℕ) (x : Redex ℕ ℕ) (name : ℕ → ℕ) (after : Net ℕ) →
    AreClasses sig → IsNet sig n → IsNet sig x.member → IsRedex sig n x → IsStep sig n x name after →
    (CrossingCircle (graph_of sig n) → ⊥) → (CrossingCircle (open_member sig x) → ⊥) → CrossingCircle (graph_of sig after) → ⊥

-- .. and leaves no closed alternating path, which would be a wire without ends
abbrev pub NoClosedPath : Type 0
NoClosedPath = (sig : Signature) (n : Net ℕ) (x : Redex ℕ ℕ) → AreClasses sig → IsNet sig n → IsNet sig x.member → IsRedex sig n x →
    (CrossingCircle (graph_of sig n) → ⊥) → (CrossingCircle (open_member sig x) → ⊥) → ClosedPath sig n x → ⊥

-- a net without crossing circle has no vicious one
abbrev pub NoViciousCircle : Type 0
NoViciousCircle = (sig : Signature) (n : Net ℕ) → AreClasses sig → IsNet sig n → (CrossingCircle (graph_of sig n) → ⊥) → ViciousCircle (graph_of sig n) → ⊥

-- without a crossing circle, the walk from each agent by principal ports ends
abbrev pub EachLeadsOn : Type 0
EachLeadsOn = (sig : Signature) (n : Net ℕ) → AreClasses sig → IsNet sig n → (CrossingCircle (graph_of sig n) → ⊥) →
    (x : ℕ) → IsSome (n.symbol x) → MeetsPair n x ⊎ ((k : ℕ) × WaitsAt n k x)
