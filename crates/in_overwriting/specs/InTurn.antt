-- The wires of a right member listed, and written one after another: two stores for each. The order of the list doesn't matter, nor the
-- direction in which a wire is listed. Doing an interaction so is this project's own choice.
use Rattle.std.specs.Prelude.{◌≡◌, ◌≢◌, ◌⊎◌, ◌++◌, ℕ, List, [], ◌∷◌, map, Option, Some, None}
use Rattle.in_base.specs.Lists.{IsAmong}
use Rattle.in_net.specs.Interactions.{Redex, IsOfPair}
use Rattle.in_net.specs.Nets.{Point, Port, Free, Signature, Net, IsNet}
use Rattle.in_overwriting.specs.Overwriting.{CanOverwrite, IsSideAt, IsSide, AreOverwritten}
use Rattle.in_overwriting.specs.MadeByWires.{AreOverEnds}

-- each element of the list is a wire of the net
abbrev pub AreAmongWires : {B : Type 0} → Net B → List (Point B × Point B) → Type 0
AreAmongWires {B} m wires = (p q : Point B) → IsAmong (p, q) wires → m.partner p ≡ Some q

-- the list has each wire of the net, in one direction or in both, and nothing else
pub record AreAllWiresOf {B : Type 0} (m : Net B) (wires : List (Point B × Point B)) : Type 0 where
  pub wire : AreAmongWires m wires
  pub all : (p q : Point B) → m.partner p ≡ Some q → IsAmong (p, q) wires ⊎ IsAmong (q, p) wires

-- each of the two points is written at the other, and nothing else is
pub record AreStored {A : Type 0} (u v : Point A) (old new : Point A → Option (Point A)) : Type 0 where
  pub one : new u ≡ Some v
  pub two : new v ≡ Some u
  pub others : (w : Point A) → w ≢ u → w ≢ v → new w ≡ old w

-- the sides of these wires are stored, one wire after another
pub data StoresInTurn {A B : Type 0} (sig : Signature) (n : Net A) (x : Redex A B) (name : B → A) : List (Point B × Point B) → (Point A → Option (Point A)) → (Point A → Option (Point A)) → Type 0 where
  no_wire : (f : Point A → Option (Point A)) → StoresInTurn sig n x name [] f f
  wire_first : (p q : Point B) (wires : List (Point B × Point B)) (u v : Point A) (f g h : Point A → Option (Point A)) → IsSideAt sig n x name p u → IsSideAt sig n x name q v →
      AreStored u v f g → StoresInTurn sig n x name wires g h → StoresInTurn sig n x name ((p, q) ∷ wires) f h

-- the partners of points that are no side: those before, and none at the pair's ports. The partner at a side is left open, so that a new
-- agent's place may hold anything
pub record IsAsBefore {A B : Type 0} (sig : Signature) (n : Net A) (x : Redex A B) (name : B → A) (f : Point A → Option (Point A)) : Type 0 where
  pub gone : (u : Point A) → IsOfPair x u → f u ≡ None
  pub kept : (u : Point A) → (IsOfPair x u → ⊥) → (IsSide sig n x name u → ⊥) → f u ≡ n.partner u

-- the stored partners are those that an interaction makes
abbrev pub StoredAreOverwritten : Type 0
StoredAreOverwritten = (sig : Signature) (n : Net ℕ) (x : Redex ℕ ℕ) (name : ℕ → ℕ) (wires : List (Point ℕ × Point ℕ)) (f g : Point ℕ → Option (Point ℕ)) → CanOverwrite sig n x name →
    AreAllWiresOf x.member wires → IsAsBefore sig n x name f → StoresInTurn sig n x name wires f g → AreOverwritten sig n x name g

-- ---- the list in two parts

-- these are the wires between ports, in one direction or in both
pub record AreWiresWithin {B : Type 0} (m : Net B) (wires : List (Point B × Point B)) : Type 0 where
  pub wire : AreAmongWires m wires
  pub all : (k l : B) (i j : ℕ) → m.partner (Port k i) ≡ Some (Port l j) → IsAmong (Port k i, Port l j) wires ⊎ IsAmong (Port l j, Port k i) wires

-- first the wires with boundary ends, each from its lowest one, and then the others
abbrev pub in_two_parts : {B : Type 0} → List (ℕ × Point B) → List (Point B × Point B) → List (Point B × Point B)
in_two_parts over within = map (λ w. (Free w.0, w.1)) over ++ within

-- these are all wires
abbrev pub WiresInTwoParts : Type 0
WiresInTwoParts = (sig : Signature) (m : Net ℕ) (over : List (ℕ × Point ℕ)) (within : List (Point ℕ × Point ℕ)) → IsNet sig m →
    AreOverEnds m over → AreWiresWithin m within → AreAllWiresOf m (in_two_parts over within)
