-- A net that is glued from parts: each part is a net with free ends, and some of these are joined in pairs. Lafont 1990
-- reduces nets locally, and leaves the rest of a net unchanged; that a net is cut into parts and glued again is this project's own choice.
use Rattle.std.specs.Prelude.{◌≡◌, ◌≢◌, ◌↔◌, ◌<◌, ℕ, List, length, map, slice_get, Option, Some, None, IsSome}
use Rattle.in_symbols.specs.declared.symbols.PortType.{PortType}
use Rattle.in_net.specs.Interactions.{Redex, Side, Outer, Inner, Alternates}
use Rattle.in_net.specs.Nets.{Point, Port, Free, Net}
use Rattle.in_typing.specs.Typed.{opposite}

-- how parts, which have numbers, are joined: the free end that a free end is joined to, and the free ends that stay, in their order. A
-- free end is given by its part's number and its own
pub record Cuts : Type 0 where
  pub across : ℕ × ℕ → Option (ℕ × ℕ)
  pub outer : List (ℕ × ℕ)

-- a free end that is joined to another one
abbrev pub IsJointEndAt : {A : Type 0} → Cuts → ℕ → Point A → Type 0
IsJointEndAt cuts i (Port x k) = ⊥
IsJointEndAt cuts i (Free e) = IsSome (cuts.across (i, e))

abbrev pub IsJointEnd : {A : Type 0} → Cuts → ℕ × Point A → Type 0
IsJointEnd cuts p = IsJointEndAt cuts p.0 p.1

-- the wires of the parts, and the joints between their free ends
abbrev pub glue_wire : {A : Type 0} → (ℕ → Net A) → Cuts → Side → ℕ × Point A → ℕ × Point A → Type 0
glue_wire parts cuts Outer p q = (p.0 ≡ q.0) × ((parts p.0).partner p.1 ≡ Some q.1)
glue_wire parts cuts Inner p q = (e f : ℕ) × (p.1 ≡ Free e) × (q.1 ≡ Free f) × (cuts.across (p.0, e) ≡ Some (q.0, f))

-- joined by a wire of a part, or by wires that go through joints
abbrev pub AreLinked : {A : Type 0} → (ℕ → Net A) → Cuts → ℕ × Point A → ℕ × Point A → Type 0
AreLinked {A} parts cuts p q = (IsJointEnd cuts p → ⊥) × (IsJointEnd cuts q → ⊥) ×
    ((side : Side) × (es : List (ℕ × Point A)) × Alternates (glue_wire parts cuts) (IsJointEnd cuts) side p es q)

-- the point of the glued net for a part's point: agents have names by their part, and the free ends that stay have their numbers
abbrev pub IsPlaced : {A C : Type 0} → Cuts → (ℕ → A → C) → ℕ → Point A → Point C → Type 0
IsPlaced cuts name i (Port x k) u = u ≡ Port (name i x) k
IsPlaced cuts name i (Free e) u = (k : ℕ) × (u ≡ Free k) × (slice_get cuts.outer k ≡ Some (i, e))

-- the names of different agents are different, and so are those of agents of different parts
abbrev pub AreAllApart : {A C : Type 0} → (ℕ → A → C) → Type 0
AreAllApart {A} name = (i j : ℕ) (x y : A) → name i x ≡ name j y → (i ≡ j) × (x ≡ y)

-- the whole is the parts, glued along these joints
pub record IsGlued {A C : Type 0} (parts : ℕ → Net A) (name : ℕ → A → C) (cuts : Cuts) (whole : Net C) : Type 0 where
  pub agents : (y : C) (s : ℕ) → (whole.symbol y ≡ Some s) ↔ ((i : ℕ) × (x : A) × (name i x ≡ y) × ((parts i).symbol x ≡ Some s))
  pub wires : (u v : Point C) → (whole.partner u ≡ Some v) ↔ ((p q : ℕ × Point A) × IsPlaced cuts name p.0 p.1 u × IsPlaced cuts name q.0 q.1 v × AreLinked parts cuts p q)
  pub free : map (λ t. Some t) whole.free ≡ map (λ p. slice_get (parts p.0).free p.1) cuts.outer

-- the joints lead back, to other free ends, which the parts have. Those that aren't joined stay, each once
pub record AreCuts {A : Type 0} (parts : ℕ → Net A) (cuts : Cuts) : Type 0 where
  pub back : (p q : ℕ × ℕ) → cuts.across p ≡ Some q → cuts.across q ≡ Some p
  pub apart : (p : ℕ × ℕ) → cuts.across p ≢ Some p
  pub within : (i e : ℕ) → IsSome (cuts.across (i, e)) → e < length (parts i).free
  pub opposite_types : (i e j f : ℕ) (s t : PortType) → cuts.across (i, e) ≡ Some (j, f) → slice_get (parts i).free e ≡ Some s → slice_get (parts j).free f ≡ Some t → t ≡ opposite s
  pub stay : (k i e : ℕ) → slice_get cuts.outer k ≡ Some (i, e) → (cuts.across (i, e) ≡ None) × (e < length (parts i).free)
  pub once : (k l : ℕ) (p : ℕ × ℕ) → slice_get cuts.outer k ≡ Some p → slice_get cuts.outer l ≡ Some p → k ≡ l
  pub all : (i e : ℕ) → cuts.across (i, e) ≡ None → e < length (parts i).free → (k : ℕ) × (slice_get cuts.outer k ≡ Some (i, e))

-- an active pair of a part, in the whole
abbrev pub placed_pair : {A B C : Type 0} → (ℕ → A → C) → ℕ → Redex A B → Redex C B
placed_pair name i x = record { one = name i x.one; two = name i x.two; first = x.first; second = x.second; member = x.member }

-- one part is another net now, and the others are unchanged
abbrev pub AreOthers : {A : Type 0} → ℕ → (ℕ → Net A) → (ℕ → Net A) → Type 0
AreOthers i parts after = (j : ℕ) → j ≢ i → after j ≡ parts j
