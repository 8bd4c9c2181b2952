-- Gluing joint by joint, in place: the parts are side by side in one net, whose free ends have their own numbers, and one joint after
-- another joins two of these. A free end that is joined has no wire from then on.
use Rattle.std.specs.Prelude.{◌≡◌, ◌≢◌, ◌⊎◌, ◌↔◌, ℕ, List, map, slice_get, Some, None}
use Rattle.in_net.specs.Nets.{Point, Port, Free, Net}
use Rattle.in_gluing.specs.Gluing.{Cuts, AreLinked, IsGlued}

-- the point of the net for a part's point
abbrev pub IsAtNumber : {A C : Type 0} → (ℕ × ℕ → ℕ) → (ℕ → A → C) → ℕ → Point A → Point C → Type 0
IsAtNumber number name i (Port x k) u = u ≡ Port (name i x) k
IsAtNumber number name i (Free e) u = u ≡ Free (number (i, e))

-- the net has the agents of the parts under their names
abbrev pub HasAgentsOfParts : {A C : Type 0} → (ℕ → Net A) → (ℕ → A → C) → Net C → Type 0
HasAgentsOfParts {A} {C} parts name m = (y : C) (s : ℕ) → (m.symbol y ≡ Some s) ↔ ((i : ℕ) × (x : A) × (name i x ≡ y) × ((parts i).symbol x ≡ Some s))

-- the net has the same agents
abbrev pub HasSameAgents : {C : Type 0} → Net C → Net C → Type 0
HasSameAgents {C} w m = (y : C) (s : ℕ) → (w.symbol y ≡ Some s) ↔ (m.symbol y ≡ Some s)

-- the net is the parts, so far joined by these joints
pub record IsJoinedBy {A C : Type 0} (parts : ℕ → Net A) (name : ℕ → A → C) (number : ℕ × ℕ → ℕ) (cuts : Cuts) (m : Net C) : Type 0 where
  pub agents : HasAgentsOfParts parts name m
  pub wires : (u v : Point C) → (m.partner u ≡ Some v) ↔ ((p q : ℕ × Point A) × IsAtNumber number name p.0 p.1 u × IsAtNumber number name q.0 q.1 v × AreLinked parts cuts p q)

-- one joint more, between two free ends that weren't joined
pub record IsOneMore (cuts more : Cuts) (one other : ℕ × ℕ) : Type 0 where
  pub free_one : cuts.across one ≡ None
  pub free_other : cuts.across other ≡ None
  pub joints : (p q : ℕ × ℕ) → (more.across p ≡ Some q) ↔ ((cuts.across p ≡ Some q) ⊎ ((p ≡ one) × (q ≡ other)) ⊎ ((p ≡ other) × (q ≡ one)))

abbrev pub IsNeither : {C : Type 0} → ℕ → ℕ → Point C → Type 0
IsNeither a b u = (u ≢ Free a) × (u ≢ Free b)

-- they were partners before, or one was the partner of one free end and the other that of the other free end
abbrev pub ArePartnersAfter : {C : Type 0} → Net C → ℕ → ℕ → Point C → Point C → Type 0
ArePartnersAfter m a b u v = (m.partner u ≡ Some v) ⊎ ((m.partner u ≡ Some (Free a)) × (m.partner (Free b) ≡ Some v)) ⊎ ((m.partner u ≡ Some (Free b)) × (m.partner (Free a) ≡ Some v))

-- the result of one joint: the partners of the two free ends are partners of one another
pub record JoinsEnds {C : Type 0} (m : Net C) (a b : ℕ) (w : Net C) : Type 0 where
  pub agents : HasSameAgents w m
  pub wires : (u v : Point C) → (w.partner u ≡ Some v) ↔ (IsNeither a b u × IsNeither a b v × ArePartnersAfter m a b u v)

-- partners lead back, and no point is its own partner
abbrev pub WiresLeadBack : {C : Type 0} → Net C → Type 0
WiresLeadBack {C} m = ((u v : Point C) → m.partner u ≡ Some v → m.partner v ≡ Some u) × ((u : Point C) → m.partner u ≢ Some u)

-- a free end to or from which a wire of its part, or a joint, leads
abbrev pub IsInUse : {A : Type 0} → (ℕ → Net A) → Cuts → ℕ × ℕ → Type 0
IsInUse {A} parts cuts p = ((u : Point A) × ((parts p.0).partner (Free p.1) ≡ Some u)) ⊎ ((u : Point A) × ((parts p.0).partner u ≡ Some (Free p.1))) ⊎ ((q : ℕ × ℕ) × (cuts.across q ≡ Some p))

-- no other free end in use has this one's number
abbrev pub HasOwnNumber : {A : Type 0} → (ℕ → Net A) → Cuts → (ℕ × ℕ → ℕ) → ℕ × ℕ → Type 0
HasOwnNumber parts cuts number r = (p : ℕ × ℕ) → IsInUse parts cuts p → number p ≡ number r → p ≡ r

-- one joint more is made by joining its two free ends
abbrev pub JoinsNext : Type 0
JoinsNext = (parts : ℕ → Net ℕ) (name : ℕ → ℕ → ℕ) (number : ℕ × ℕ → ℕ) (cuts more : Cuts) (one other : ℕ × ℕ) (m w : Net ℕ) →
    HasOwnNumber parts more number one → HasOwnNumber parts more number other → ((p q : ℕ × ℕ) → cuts.across p ≡ Some q → cuts.across q ≡ Some p) → WiresLeadBack m →
    IsJoinedBy parts name number cuts m → IsOneMore cuts more one other → JoinsEnds m (number one) (number other) w → IsJoinedBy parts name number more w

-- ---- the beginning and the end of gluing

-- the parts are side by side: the wires are those of the parts
pub record IsBeside {A C : Type 0} (parts : ℕ → Net A) (name : ℕ → A → C) (number : ℕ × ℕ → ℕ) (m : Net C) : Type 0 where
  pub agents : HasAgentsOfParts parts name m
  pub wires : (u v : Point C) → (m.partner u ≡ Some v) ↔ ((i : ℕ) × (p q : Point A) × IsAtNumber number name i p u × IsAtNumber number name i q v × ((parts i).partner p ≡ Some q))

-- .. so that no joint joins them
abbrev pub BesideJoinsNone : Type 0
BesideJoinsNone = (parts : ℕ → Net ℕ) (name : ℕ → ℕ → ℕ) (number : ℕ × ℕ → ℕ) (cuts : Cuts) (m : Net ℕ) →
    ((p : ℕ × ℕ) → cuts.across p ≡ None) → IsBeside parts name number m → IsJoinedBy parts name number cuts m

-- the point under the numbers that free ends have at the end: their places in the list of those that stay
abbrev pub IsRenumbered : {C : Type 0} → (ℕ × ℕ → ℕ) → List (ℕ × ℕ) → Point C → Point C → Type 0
IsRenumbered number outer (Port y i) u = u ≡ Port y i
IsRenumbered number outer (Free a) u = (k : ℕ) × (p : ℕ × ℕ) × (u ≡ Free k) × (slice_get outer k ≡ Some p) × (number p ≡ a)

pub record Renumbers {A C : Type 0} (parts : ℕ → Net A) (number : ℕ × ℕ → ℕ) (cuts : Cuts) (m w : Net C) : Type 0 where
  pub agents : HasSameAgents w m
  pub wires : (u v : Point C) → (w.partner u ≡ Some v) ↔ ((x y : Point C) × IsRenumbered number cuts.outer x u × IsRenumbered number cuts.outer y v × (m.partner x ≡ Some y))
  pub free : map (λ t. Some t) w.free ≡ map (λ p. slice_get (parts p.0).free p.1) cuts.outer

-- if all joints are made, the net is glued
abbrev pub AllJoinedIsGlued : Type 0
AllJoinedIsGlued = (parts : ℕ → Net ℕ) (name : ℕ → ℕ → ℕ) (number : ℕ × ℕ → ℕ) (cuts : Cuts) (m w : Net ℕ) →
    ((k : ℕ) (p : ℕ × ℕ) → slice_get cuts.outer k ≡ Some p → HasOwnNumber parts cuts number p) →
    IsJoinedBy parts name number cuts m → Renumbers parts number cuts m w → IsGlued parts name cuts w

-- ---- each joint can be made, and undoes a cut

-- there is a net that a joint makes, and its partners lead back. If the two free ends are partners of one another, the cycle is gone
abbrev pub JoinExists : Type 0
JoinExists = (m : Net ℕ) (a b : ℕ) → a ≢ b → WiresLeadBack m → (w : Net ℕ) × JoinsEnds m a b w × WiresLeadBack w

-- .. for each net that a joint makes
abbrev pub JoinsLeadBack : Type 0
JoinsLeadBack = (m : Net ℕ) (a b : ℕ) (w : Net ℕ) → a ≢ b → WiresLeadBack m → JoinsEnds m a b w → WiresLeadBack w

-- the wire between these two points is cut: the first one is at the first new free end, the second one at the second
pub record CutsWire {C : Type 0} (w : Net C) (u v : Point C) (a b : ℕ) (m : Net C) : Type 0 where
  pub agents : HasSameAgents w m
  pub wires : (x y : Point C) → (m.partner x ≡ Some y) ↔
      (((x ≢ u) × (x ≢ v) × (w.partner x ≡ Some y)) ⊎ ((x ≡ u) × (y ≡ Free a)) ⊎ ((x ≡ Free a) × (y ≡ u)) ⊎ ((x ≡ v) × (y ≡ Free b)) ⊎ ((x ≡ Free b) × (y ≡ v)))

-- joining the two free ends undoes the cut
abbrev pub CutsAreJoined : Type 0
CutsAreJoined = (w : Net ℕ) (u v : Point ℕ) (a b : ℕ) (m : Net ℕ) →
    WiresLeadBack w → w.partner u ≡ Some v → a ≢ b → w.partner (Free a) ≡ None → w.partner (Free b) ≡ None → CutsWire w u v a b m → JoinsEnds m a b w
