-- An interaction by places: whose port a point is, in the net before or in the right member.
use Rattle.std.specs.Prelude.{◌≡◌, ◌≢◌, ◌⊎◌, ℕ, List, [], ◌∷◌, Some}
use mathlib.Core.Logic.{inl, inr}
use Rattle.in_net.specs.Nets.{Point, Port, Free, Signature, Net}
use Rattle.in_net.specs.Interactions.{Redex, Side, Outer, Inner, other, end_agent, end_place}

-- the end of a wire of either side: a port of an agent that stays, a port of a new agent, a boundary end, a free end of the net
pub data Place (A B : Type 0) : Type 0 where
  Old : A → ℕ → Place A B
  New : B → ℕ → Place A B
  Boundary : ℕ → Place A B
  Loose : ℕ → Place A B

module _ {A B : Type 0} where
  -- a wire, or wires that change sides at each of these boundary ends in turn
  abbrev pub Path : (Side → Place A B → Place A B → Type 0) → Side → Place A B → List ℕ → Place A B → Type 0
  Path wire side p [] q = wire side p q
  Path wire side p (e ∷ es) q = wire side p (Boundary e) × Path wire (other side) (Boundary e) es q

  -- it is left after the interaction
  abbrev pub Stays : Place A B → Type 0
  Stays (Old x i) = Unit {0}
  Stays (New y i) = Unit {0}
  Stays (Boundary e) = ⊥
  Stays (Loose k) = Unit {0}

  -- the side of a place that stays
  abbrev pub side_of : Place A B → Side
  side_of (Old x i) = Outer
  side_of (New y i) = Inner
  side_of (Boundary e) = Outer
  side_of (Loose k) = Outer

  -- two places that stay are joined by an alternating path
  abbrev pub IsJoined : (Side → Place A B → Place A B → Type 0) → Place A B → Place A B → Type 0
  IsJoined wire p q = Stays p × Stays q × ((es : List ℕ) × Path wire (side_of p) p es q)

-- the point of the net before that is at a place
abbrev pub IsBefore : {A B : Type 0} → Signature → Redex A B → Place A B → Point A → Type 0
IsBefore sig x (Old y i) p = (y ≢ x.one) × (y ≢ x.two) × (p ≡ Port y i)
IsBefore sig x (New y i) p = ⊥
IsBefore sig x (Boundary e) p = p ≡ Port (end_agent sig x e) (end_place sig x e)
IsBefore sig x (Loose k) p = p ≡ Free k

-- the point of the right member
abbrev pub IsInside : {A B : Type 0} → Place A B → Point B → Type 0
IsInside (Old y i) p = ⊥
IsInside (New y i) p = p ≡ Port y i
IsInside (Boundary e) p = p ≡ Free e
IsInside (Loose k) p = ⊥

-- the wires of the net before outside the pair, and those of the right member
abbrev pub wires : {A B : Type 0} → Signature → Net A → Redex A B → Side → Place A B → Place A B → Type 0
wires {A} {B} sig n x Outer p q = (u v : Point A) × IsBefore sig x p u × IsBefore sig x q v × (n.partner u ≡ Some v)
wires {A} {B} sig n x Inner p q = (u v : Point B) × IsInside p u × IsInside q v × (x.member.partner u ≡ Some v)

-- the agents after: those that stay, and the new ones
abbrev pub HasSymbol : {A B : Type 0} → Net A → Redex A B → A ⊎ B → ℕ → Type 0
HasSymbol n x m s = elim m [ inl y ↦ (y ≢ x.one) × (y ≢ x.two) × (n.symbol y ≡ Some s) | inr y ↦ x.member.symbol y ≡ Some s ]

-- the point after the interaction that is at a place, if the agents have these names
abbrev pub IsAfter : {A B C : Type 0} → (A ⊎ B → C) → Place A B → Point C → Type 0
IsAfter name (Old y i) p = p ≡ Port (name (inl y)) i
IsAfter name (New y i) p = p ≡ Port (name (inr y)) i
IsAfter name (Boundary e) p = ⊥
IsAfter name (Loose k) p = p ≡ Free k

-- the used properties of the net after the interaction, if its agents have these names
pub record IsByPlaces {A B C : Type 0} (sig : Signature) (before : Net A) (x : Redex A B) (name : A ⊎ B → C) (after : Net C) : Type 0 where
  pub apart : (l m : A ⊎ B) (s t : ℕ) → HasSymbol before x l s → HasSymbol before x m t → name l ≡ name m → l ≡ m
  pub kept : (m : A ⊎ B) (s : ℕ) → HasSymbol before x m s → after.symbol (name m) ≡ Some s
  pub wired : (u v : Point C) → after.partner u ≡ Some v → (p q : Place A B) × IsAfter name p u × IsAfter name q v × IsJoined (wires sig before x) p q
