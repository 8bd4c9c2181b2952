-- Vertices joined by two ways, and how a forest keeps them. This project's own.
use Rattle.std.specs.Prelude.{◌≡◌, ◌≢◌, ◌⊎◌, ℕ, suc, ◌<◌, Bool, true, false, cond, nat_eq, List}
use Rattle.in_simple_bridges.specs.Walks.{EdgeWalk, HasTwoEnds, IsOnCycle, Other}

-- whichever edge is left out, a walk leads from one vertex to the other
abbrev pub AreJoinedTwice : List (ℕ × ℕ) → ℕ → ℕ → Type 0
AreJoinedTwice edges u v = (e : ℕ) → EdgeWalk ℕ (Other edges e) u v

-- ---- a forest

-- up is 0 for a root, and one more than the vertex above for another vertex; via is the edge between them; each vertex is deeper than the one above
pub record IsRooted (edges : List (ℕ × ℕ)) (up via depth : ℕ → ℕ) : Type 0 where
  pub tree : (x p : ℕ) → up x ≡ suc p → HasTwoEnds edges (via x) x p
  pub deeper : (x p : ℕ) → up x ≡ suc p → depth p < depth x

-- going up from one vertex comes to the other, each vertex that is left having P
pub data GoesUp (up : ℕ → ℕ) (P : ℕ → Type 0) : ℕ → ℕ → Type 0 where
  there : (x : ℕ) → GoesUp up P x x
  over : (x p y : ℕ) → P x → up x ≡ suc p → GoesUp up P p y → GoesUp up P x y

-- ---- its blobs

-- from x the covered edges lead up to y, and no further: it is the head of the blob of x. The edge above a vertex is covered if the vertex is
abbrev pub HasHead : (ℕ → ℕ) → (ℕ → Bool) → ℕ → ℕ → Type 0
HasHead up covered x y = GoesUp up (λ z. covered z ≡ true) x y × (covered y ≡ false)

abbrev pub AreInOneBlob : (ℕ → ℕ) → (ℕ → Bool) → ℕ → ℕ → Type 0
AreInOneBlob up covered u v = (y : ℕ) × HasHead up covered u y × HasHead up covered v y

-- the edge leads from the head of a blob to the vertex above
abbrev pub LeadsFromHead : (ℕ → ℕ) → (ℕ → ℕ) → (ℕ → Bool) → ℕ → Type 0
LeadsFromHead up via covered k = (x : ℕ) × (p : ℕ) × (up x ≡ suc p) × (via x ≡ k) × (covered x ≡ false)

-- each edge is within a blob, or one of the forest between two blobs; and the covered ones are on cycles
pub record AreBlobs (edges : List (ℕ × ℕ)) (up via depth : ℕ → ℕ) (covered : ℕ → Bool) : Type 0 where
  pub rooted : IsRooted edges up via depth
  pub above : (x : ℕ) → covered x ≡ true → (p : ℕ) × (up x ≡ suc p)
  pub edge : (k u v : ℕ) → HasTwoEnds edges k u v → AreInOneBlob up covered u v ⊎ LeadsFromHead up via covered k
  pub cycle : (x : ℕ) → covered x ≡ true → IsOnCycle edges (via x)

-- ---- one more edge

-- f with one other value
abbrev pub with_value : (ℕ → ℕ) → ℕ → ℕ → ℕ → ℕ
with_value f a v x = cond (nat_eq x a) v (f x)

-- ---- two ways up, from a as far as x, and from b as far as y

-- the edge above z, to p, is on the way from a, and not on the one from b
abbrev pub IsOnOneWay : (ℕ → ℕ) → (a b x y z p : ℕ) → Type 0
IsOnOneWay up a b x y z p = GoesUp up (λ w. w ≢ z) a z × GoesUp up (λ w. w ≢ z) p x × GoesUp up (λ w. w ≢ z) b y

-- both ways are covered, and no other edges than before
pub record CoversWays (up : ℕ → ℕ) (old new : ℕ → Bool) (a b x y : ℕ) : Type 0 where
  pub kept : (z : ℕ) → old z ≡ true → new z ≡ true
  pub one : GoesUp up (λ z. new z ≡ true) a x
  pub other : GoesUp up (λ z. new z ≡ true) b y
  pub only : (z : ℕ) → new z ≡ true → old z ≡ false → (p : ℕ) × (up z ≡ suc p) × (IsOnOneWay up a b x y z p ⊎ IsOnOneWay up b a y x z p)

-- the edges on the way between a and b are covered too
pub record CoversWay (up : ℕ → ℕ) (old new : ℕ → Bool) (a b : ℕ) : Type 0 where
  pub meet : ℕ
  pub ways : CoversWays up old new a b meet meet
