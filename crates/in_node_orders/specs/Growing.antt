-- A graph that grows edge by edge, and how the way between two vertices is covered. This project's own.
use Rattle.std.specs.Prelude.{◌≡◌, ℕ, suc, ◌<◌, ◌≤◌, Bool, true, false, ◌||◌, nat_eq, List, length, take}
use Rattle.in_simple_bridges.specs.Spans.{AreWithin, at}
use Rattle.in_growing_graphs.specs.Blobs.{AreBlobs, CoversWay, CoversWays, HasHead}
use Rattle.in_node_orders.specs.Heads.{AreFalling, AreSkips}
use Rattle.in_node_orders.specs.declared.growing.Growing.{Growing}

pub record AreClimbable (ups skips : List ℕ) : Type 0 where
  pub size : length ups ≡ length skips
  pub ups_fall : AreFalling ups
  pub skips_fall : AreFalling skips

-- the edge above x is covered too
abbrev pub with_covered : (ℕ → Bool) → ℕ → ℕ → Bool
with_covered covered x z = nat_eq z x || covered z

-- the edge above a bare vertex gets covered, and y is the head there
abbrev pub ClimbsTo : List ℕ → List ℕ → List ℕ → ℕ → ℕ → Type 0
ClimbsTo ups old new x y = (covered : ℕ → Bool) → AreSkips (at ups) covered old → covered x ≡ false →
    AreSkips (at ups) (with_covered covered x) new × (p : ℕ) × (at ups x ≡ suc p) × HasHead (at ups) (with_covered covered x) p y

-- ---- two ways up, from a as far as x, and from b as far as y

-- both ways are covered; x and y have lower numbers than each vertex that gets covered
pub record CoversTo (up : ℕ → ℕ) (old new : ℕ → Bool) (a b x y : ℕ) : Type 0 where
  pub ways : CoversWays up old new a b x y
  pub before : (z : ℕ) → new z ≡ true → old z ≡ false → (x < z) × (y < z)

-- .. up to two heads
abbrev pub MergesTo : List ℕ → List ℕ → List ℕ → (a b x y : ℕ) → Type 0
MergesTo ups skips skips' a b x y = (old : ℕ → Bool) → AreSkips (at ups) old skips →
    (new : ℕ → Bool) × CoversTo (at ups) old new a b x y × AreSkips (at ups) new skips' × (new x ≡ false) × (new y ≡ false)

-- the way between a and b is covered
abbrev pub Merges : List ℕ → List ℕ → List ℕ → (a b : ℕ) → Type 0
Merges ups skips skips' a b = (old : ℕ → Bool) → AreSkips (at ups) old skips → (new : ℕ → Bool) × CoversWay (at ups) old new a b × AreSkips (at ups) new skips'

-- ---- the graph

-- the edges that have come
abbrev pub come : Growing → List (ℕ × ℕ)
come g = take g.come g.edges

-- these are the blobs of the edges that have come, the vertices being numbered from the roots on
abbrev pub ShowsBlobs : List (ℕ × ℕ) → List ℕ → List ℕ → List ℕ → Type 0
ShowsBlobs edges ups vias skips = (covered : ℕ → Bool) × AreBlobs edges (at ups) (at vias) (λ x. x) covered × AreSkips (at ups) covered skips

pub record IsGrowing (g : Growing) : Type 0 where
  pub most : g.come ≤ length g.edges
  pub within : AreWithin (length g.ups) g.edges
  pub vias : length g.vias ≡ length g.ups
  pub skips : length g.skips ≡ length g.ups
  pub blobs : ShowsBlobs (come g) g.ups g.vias g.skips
