-- The parts of a cycle after an interaction: pieces outside and inside, cut at the boundary ends, and the closed walk that they leave in
-- the right member with its class nodes. This project's own.
use Rattle.std.specs.Prelude.{◌≡◌, ◌≢◌, ◌⊎◌, ℕ, Bool, List, [], ◌∷◌, ◌++◌, map}
use Rattle.std.specs.List.{AllByRecursion}
use mathlib.Core.Logic.{inl, inr}
use Rattle.in_base.specs.Graphs.{Passage, entered, left, LeadsThrough, IsCrossing, AreApart, CrossingCircle}
use Rattle.in_net.specs.Graphs.{graph_of}
use Rattle.in_net.specs.Nets.{Free, Signature, Net}
use Rattle.in_net.specs.Interactions.{Redex, Side, Outer, Inner, other, end_agent, end_place, class_node, open_port, open_member}

abbrev pub renamed : {V C : Type 0} → (V → C) → Passage V → Passage C
renamed name p = record { node = name p.node; enter = p.enter; leave = p.leave }

-- the agents that stay and the new ones, under their names after the interaction
abbrev pub name_after : {A B : Type 0} → (B → A) → A ⊎ B → A
name_after name m = elim m [ inl y ↦ y | inr k ↦ name k ]

-- ---- pieces

-- the port of the pair that is a boundary end
abbrev pub end_port : {A B : Type 0} → Signature → Redex A B → ℕ → A × ℕ
end_port sig x e = (end_agent sig x e, end_place sig x e)

-- a walk of the net before from a boundary end to one, through different agents that stay, each entered and left by different classes
pub record IsOuterPiece {A B : Type 0} (sig : Signature) (n : Net A) (x : Redex A B) (e f : ℕ) (ps : List (Passage A)) : Type 0 where
  pub leads : LeadsThrough (graph_of sig n) (end_port sig x e) ps (end_port sig x f)
  pub crossing : AllByRecursion (IsCrossing (graph_of sig n)) ps
  pub apart : AreApart ps
  pub stays : AllByRecursion (λ p. (p.node ≢ x.one) × (p.node ≢ x.two)) ps

-- a walk of the right member from a boundary end to one, through different new agents, each entered and left by different classes
pub record IsInnerPiece {A B : Type 0} (sig : Signature) (x : Redex A B) (e f : ℕ) (ps : List (Passage B)) : Type 0 where
  pub leads : LeadsThrough (open_member sig x) (open_port sig x (Free e)) (map (renamed (λ y. inl y)) ps) (open_port sig x (Free f))
  pub crossing : AllByRecursion (IsCrossing (graph_of sig x.member)) ps
  pub apart : AreApart ps

-- the boundary ends at which a piece begins and ends, and the passages of its agents in between
pub data Piece (A B : Type 0) : Type 0 where
  Outside : ℕ → List (Passage A) → ℕ → Piece A B
  Inside : ℕ → List (Passage B) → ℕ → Piece A B

module _ {A B : Type 0} where
  abbrev pub begins : Piece A B → ℕ
  begins (Outside e ps f) = e
  begins (Inside e ps f) = e

  abbrev pub ends : Piece A B → ℕ
  ends (Outside e ps f) = f
  ends (Inside e ps f) = f

  abbrev pub lies : Piece A B → Side
  lies (Outside e ps f) = Outer
  lies (Inside e ps f) = Inner

abbrev pub IsPiece : {A B : Type 0} → Signature → Net A → Redex A B → Piece A B → Type 0
IsPiece sig n x (Outside e ps f) = IsOuterPiece sig n x e f ps
IsPiece sig n x (Inside e ps f) = IsInnerPiece sig x e f ps

-- the agents on these pieces in turn
abbrev pub passages_of : {A B : Type 0} → List (Piece A B) → List (Passage (A ⊎ B))
passages_of [] = []
passages_of (Outside e ps f ∷ qs) = map (renamed (λ y. inl y)) ps ++ passages_of qs
passages_of (Inside e ps f ∷ qs) = map (renamed (λ y. inr y)) ps ++ passages_of qs

-- the second piece begins at the boundary end at which the first one ends, on its other side
abbrev pub Follows : {A B : Type 0} → Piece A B → Piece A B → Type 0
Follows p q = (ends p ≡ begins q) × (lies q ≡ other (lies p))

-- .. and so on, to this last one
abbrev pub FollowInTurn : {A B : Type 0} → Piece A B → List (Piece A B) → Piece A B → Type 0
FollowInTurn p [] q = Follows p q
FollowInTurn p (r ∷ rs) q = Follows p r × FollowInTurn r rs q

abbrev pub AreDifferent : {X : Type 0} → List X → Type 0
AreDifferent [] = Unit {0}
AreDifferent (x ∷ xs) = AllByRecursion (λ y. x ≢ y) xs × AreDifferent xs

-- outer and inner pieces by turns in a cycle, through different agents and different boundary ends
pub record PieceCycle {A B : Type 0} (sig : Signature) (n : Net A) (x : Redex A B) : Type 0 where
  pub first : Piece A B
  pub rest : List (Piece A B)
  pub closed : FollowInTurn first rest first
  pub pieces : AllByRecursion (IsPiece sig n x) (first ∷ rest)
  pub agents : AreApart (passages_of (first ∷ rest))
  pub boundary : AreDifferent (map begins (first ∷ rest))

-- one list is the other with another beginning
abbrev pub IsTurned : {X : Type 0} → List X → List X → Type 0
IsTurned {X} xs ys = (front back : List X) × (xs ≡ front ++ back) × (ys ≡ back ++ front)

-- a cycle of these agents after the interaction is one of the net before, or of the right member, unchanged; or it is made of pieces in a
-- cycle, whose agents are the cycle's, each once
pub data IsMadeOf {A B : Type 0} (sig : Signature) (n : Net A) (x : Redex A B) (name : B → A) (cycle : List (Passage A)) : Type 0 where
  wholly_outside : (c : CrossingCircle (graph_of sig n)) → c.first ∷ c.rest ≡ cycle → IsMadeOf sig n x name cycle
  wholly_inside : (c : CrossingCircle (graph_of sig x.member)) → map (renamed name) (c.first ∷ c.rest) ≡ cycle → IsMadeOf sig n x name cycle
  of_pieces : (r : PieceCycle sig n x) → IsTurned cycle (map (renamed (name_after name)) (passages_of (r.first ∷ r.rest))) → IsMadeOf sig n x name cycle

-- ---- the part of a cycle inside

-- the piece, if it is an outer one, is a passage through one class node, by two different ports
abbrev pub IsPassage : {A B : Type 0} → Signature → Redex A B → Piece A B → Type 0
IsPassage sig x (Outside e ps f) = (class_node sig x e ≡ class_node sig x f) × (e ≢ f)
IsPassage sig x (Inside e ps f) = Unit {0}

-- the ports by which these passages enter and leave
abbrev pub ports_of : {V : Type 0} → List (Passage V) → List (V × ℕ)
ports_of [] = []
ports_of (p ∷ ps) = entered p ∷ left p ∷ ports_of ps

-- the first passage isn't at an agent, or the second one is at another node
abbrev pub AtOtherAgent : {B : Type 0} → Passage (B ⊎ (Bool × ℕ)) → Passage (B ⊎ (Bool × ℕ)) → Type 0
AtOtherAgent p q = elim p.node [ inl y ↦ p.node ≢ q.node | inr c ↦ Unit {0} ]

abbrev pub AgentsOnce : {B : Type 0} → List (Passage (B ⊎ (Bool × ℕ))) → Type 0
AgentsOnce [] = Unit {0}
AgentsOnce (p ∷ ps) = AllByRecursion (AtOtherAgent p) ps × AgentsOnce ps

-- a closed walk of the open right member that enters and leaves each node by different classes, and meets each agent and each port at
-- most once
pub record ClosedWalk {A B : Type 0} (sig : Signature) (x : Redex A B) : Type 0 where
  pub first : Passage (B ⊎ (Bool × ℕ))
  pub rest : List (Passage (B ⊎ (Bool × ℕ)))
  pub closed : LeadsThrough (open_member sig x) (left first) rest (entered first)
  pub crossing : AllByRecursion (IsCrossing (open_member sig x)) (first ∷ rest)
  pub ports : AreDifferent (ports_of (first ∷ rest))
  pub agents : AgentsOnce (first ∷ rest)
