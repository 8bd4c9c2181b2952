-- The laws of nets that are glued from parts.
use Rattle.std.specs.Prelude.{◌≡◌, ◌⊎◌, ◌↔◌, ℕ, Some, IsSome}
use Rattle.in_net.specs.Interactions.{Redex, Outer, Inner, IsStep}
use Rattle.in_net.specs.Nets.{Point, Port, Free, Signature, Net, IsNet}
use Rattle.in_net.specs.Renaming.{IsRenamed}
use Rattle.in_gluing.specs.Gluing.{Cuts, glue_wire, AreAllApart, IsGlued, placed_pair, AreOthers}

-- an interaction of one part is one of the whole: each net that is glued from the parts after it is the whole after it
abbrev pub FramesStep : Type 0
FramesStep = (sig : Signature) (parts after : ℕ → Net ℕ) (name : ℕ → ℕ → ℕ) (cuts : Cuts) (i : ℕ) (x : Redex ℕ ℕ) (new : ℕ → ℕ) (whole whole_after : Net ℕ) →
    AreAllApart name → IsGlued parts name cuts whole → IsStep sig (parts i) x new (after i) → AreOthers i parts after → IsGlued after name cuts whole_after →
    IsStep sig whole (placed_pair name i x) (λ k. name i (new k)) whole_after

-- .. and the whole after it is glued from the parts after it
abbrev pub FramesGlue : Type 0
FramesGlue = (sig : Signature) (parts after : ℕ → Net ℕ) (name : ℕ → ℕ → ℕ) (cuts : Cuts) (i : ℕ) (x : Redex ℕ ℕ) (new : ℕ → ℕ) (whole whole_after : Net ℕ) →
    AreAllApart name → IsGlued parts name cuts whole → IsStep sig (parts i) x new (after i) → AreOthers i parts after →
    IsStep sig whole (placed_pair name i x) (λ k. name i (new k)) whole_after → IsGlued after name cuts whole_after

-- the parts' agents have different names
abbrev pub KeepsApart : (ℕ → Net ℕ) → (ℕ → ℕ → ℕ) → Type 0
KeepsApart parts name = (i j x y : ℕ) → IsSome ((parts i).symbol x) → IsSome ((parts j).symbol y) → name i x ≡ name j y → (i ≡ j) × (x ≡ y)

-- under names that keep its agents apart, each net has a renamed net
abbrev pub RenamedExists : Type 0
RenamedExists = (sig : Signature) (n : Net ℕ) (f : ℕ → ℕ) → IsNet sig n → ((x y : ℕ) → IsSome (n.symbol x) → IsSome (n.symbol y) → f x ≡ f y → x ≡ y) →
    (m : Net ℕ) × IsRenamed f n m

-- ---- names

-- there are names that keep all agents apart
abbrev pub NamesExist : Type 0
NamesExist = (name : ℕ → ℕ → ℕ) × AreAllApart name

-- the same parts, glued along the same cuts, are one net, up to the names of its agents
abbrev pub GluedOnce : Type 0
GluedOnce = (sig : Signature) (parts : ℕ → Net ℕ) (cuts : Cuts) (a b : ℕ → ℕ → ℕ) (n m : Net ℕ) → ((i : ℕ) → IsNet sig (parts i)) →
    KeepsApart parts a → KeepsApart parts b → IsGlued parts a cuts n → IsGlued parts b cuts m → (f : ℕ → ℕ) × IsRenamed f n m

-- ---- active pairs

-- a joint, or joints with wires of parts between them, lead from one joined free end to the other
pub data MeetByJoints (parts : ℕ → Net ℕ) (cuts : Cuts) : ℕ × Point ℕ → ℕ × Point ℕ → Type 0 where
  joint : (p q : ℕ × Point ℕ) → glue_wire parts cuts Inner p q → MeetByJoints parts cuts p q
  joint_later : (p q r s : ℕ × Point ℕ) → glue_wire parts cuts Inner p q → glue_wire parts cuts Outer q r → MeetByJoints parts cuts r s → MeetByJoints parts cuts p s

-- an active pair of one part
abbrev pub IsPairOfPart : (ℕ → Net ℕ) → (ℕ → ℕ → ℕ) → ℕ → ℕ → Type 0
IsPairOfPart parts name a b = (i x y : ℕ) × (name i x ≡ a) × (name i y ≡ b) × ((parts i).partner (Port x 0) ≡ Some (Port y 0))

-- two principal ports whose partners are joined free ends, between which joints lead
abbrev pub IsPairAcross : (ℕ → Net ℕ) → (ℕ → ℕ → ℕ) → Cuts → ℕ → ℕ → Type 0
IsPairAcross parts name cuts a b = (i x e j y f : ℕ) × (name i x ≡ a) × (name j y ≡ b) × ((parts i).partner (Port x 0) ≡ Some (Free e)) ×
    ((parts j).partner (Free f) ≡ Some (Port y 0)) × MeetByJoints parts cuts (i, Free e) (j, Free f)

-- the active pairs of the whole are those of the parts, and those that joints make
abbrev pub PairsAreOfPartsOrMade : Type 0
PairsAreOfPartsOrMade = (parts : ℕ → Net ℕ) (name : ℕ → ℕ → ℕ) (cuts : Cuts) (whole : Net ℕ) →
    IsGlued parts name cuts whole → ((p q : ℕ × ℕ) → cuts.across p ≡ Some q → cuts.across q ≡ Some p) →
    (a b : ℕ) → (whole.partner (Port a 0) ≡ Some (Port b 0)) ↔ (IsPairOfPart parts name a b ⊎ IsPairAcross parts name cuts a b)
