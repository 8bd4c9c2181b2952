-- The parts of a net from its reading and its links. No public contract names this.
use Rattle.std.specs.Prelude.{◌≡◌, ◌≢◌, ℕ, zero, suc, ◌+◌, ◌^◌, ◌<◌, cond, nat_lt, List, [], ◌∷◌, ◌++◌, length, map, Option, Some, None, option_to_list, slice_index_or}
use Rattle.std.specs.List.{AllByRecursion}
use Rattle.in_syntax.specs.declared.tree.SourceFree.{SourceFree}
use Rattle.in_net.specs.declared.reading.TextSpot.{TextSpot}
use Rattle.in_net.specs.declared.reading.TextSpot.TheVariants as spot
use Rattle.in_net.specs.declared.reading.Agent.{Agent}
use Rattle.in_net.specs.declared.joining.Link.{Link}
use Rattle.in_net.specs.declared.nets.Point.{Point}
use Rattle.in_net.specs.declared.nets.Point.TheVariants.{Port, Free}
use Rattle.in_net.specs.declared.nets.Cell.{Cell}
use Rattle.in_net.specs.declared.nets.FreeEnd.{FreeEnd}
use Rattle.in_net.specs.declared.nets.Wire.{Wire}
use Rattle.in_symbols.specs.Tables.{Tables, arity_of, port_of, port_at}
use Rattle.in_net.specs.declared.counting.Seen.{Seen}
use Rattle.in_net.specs.declared.counting.Seen.TheVariants.{Never, Twice}
use Rattle.in_net.specs.Counting.{name_of}
use Rattle.in_net.specs.Joining.{no_link}

abbrev pub no_agent : Agent
no_agent = record { symbol = record { 0 = 0 }; place = record { from = 0; to = 0; line = 0; col = 0 }; first = 0 }

abbrev pub no_spot : TextSpot
no_spot = spot.Port 0 0 (record { from = 0; to = 0; line = 0; col = 0 })

-- the spot of that number, and its partner
abbrev pub nth_spot : List TextSpot → ℕ → TextSpot
nth_spot spots i = slice_index_or spots i no_spot

abbrev pub nth_link : List Link → ℕ → Link
nth_link links i = slice_index_or links i no_link

abbrev pub nth_agent : List Agent → ℕ → Agent
nth_agent agents a = slice_index_or agents a no_agent

-- each name that a spot has is seen twice
abbrev pub AreTwice : List TextSpot → List Seen → Type 0
AreTwice spots seen = (i m : ℕ) → i < length spots → name_of (nth_spot spots i) ≡ Some m → slice_index_or seen m Never ≡ Twice

-- the point of a spot; an occurrence has none
abbrev pub point_of : TextSpot → Option Point
point_of (spot.Port a i p) = Some (Port (record { 0 = a }) i)
point_of (spot.Free k m) = Some (Free k)
point_of (spot.End k) = Some (Free k)
point_of (spot.Occurrence m p) = None

abbrev pub IsPointSpot : TextSpot → Type 0
IsPointSpot (spot.Port a i p) = Unit {0}
IsPointSpot (spot.Free k m) = Unit {0}
IsPointSpot (spot.End k) = Unit {0}
IsPointSpot (spot.Occurrence m p) = ⊥

abbrev pub point_in : TextSpot → Point
point_in (spot.Port a i p) = Port (record { 0 = a }) i
point_in (spot.Free k m) = Free k
point_in (spot.End k) = Free k
point_in (spot.Occurrence m p) = Free 0

abbrev pub IsSmall : TextSpot → Type 0
IsSmall (spot.Port a i p) = a < 2 ^ 32
IsSmall (spot.Free k m) = k < 2 ^ 32
IsSmall (spot.End k) = k < 2 ^ 32
IsSmall (spot.Occurrence m p) = Unit {0}

abbrev pub AreSmallSpots : List TextSpot → Type 0
AreSmallSpots = AllByRecursion IsSmall

-- each spot is joined to a spot
abbrev pub LeadToSpots : List TextSpot → List Link → Type 0
LeadToSpots spots links = (i : ℕ) → i < length spots → (nth_link links i).to < length spots

-- .. and its partner leads back, with the same place
abbrev pub LeadBack : List TextSpot → List Link → Type 0
LeadBack spots links = (i : ℕ) → i < length spots → nth_link links (nth_link links i).to ≡ record { to = i; place = (nth_link links i).place }

-- all is joined: points are joined to other points, each of which leads back, and no occurrence is joined to anything
pub record IsJoined (spots : List TextSpot) (links : List Link) : Type 0 where
  pub count : length links ≡ length spots
  pub inside : LeadToSpots spots links
  pub back : LeadBack spots links
  pub apart : (i : ℕ) → i < length spots → IsPointSpot (nth_spot spots i) → (nth_link links i).to ≢ i
  pub alone : (i : ℕ) → i < length spots → (IsPointSpot (nth_spot spots i) → ⊥) → (nth_link links i).to ≡ i

-- the point that a spot is joined to
abbrev pub partner_of : List TextSpot → List Link → ℕ → Point
partner_of spots links at = point_in (nth_spot spots (nth_link links at).to)

abbrev pub ends_from : List TextSpot → List Link → ℕ → ℕ → List Point
ends_from spots links at zero = []
ends_from spots links at (suc n) = partner_of spots links at ∷ ends_from spots links (at + 1) n

abbrev pub cell_of : Tables → List TextSpot → List Link → Agent → Cell
cell_of t spots links a = record { symbol = a.symbol; ends = ends_from spots links a.first (arity_of t a.symbol.0 + 1) }

abbrev pub cells_of : Tables → List TextSpot → List Link → List Agent → List (Option Cell)
cells_of t spots links = map (λ a. Some (cell_of t spots links a))

abbrev pub free_end_of : Tables → List TextSpot → List Link → ℕ → SourceFree → FreeEnd
free_end_of t spots links k f = record { name = f.name.text; kind = port_of t.types f.port; end = partner_of spots links k }

abbrev pub free_ends_from : Tables → List TextSpot → List Link → ℕ → List SourceFree → List FreeEnd
free_ends_from t spots links k [] = []
free_ends_from t spots links k (f ∷ fs) = free_end_of t spots links k f ∷ free_ends_from t spots links (k + 1) fs

-- the wire between a spot and a later one
abbrev pub wire_of : List TextSpot → List Link → ℕ → Option Wire
wire_of spots links at =
    cond (nat_lt at (nth_link links at).to) (Some (record { one = point_in (nth_spot spots at); other = partner_of spots links at; place = (nth_link links at).place })) None

abbrev pub wires_from : List TextSpot → List Link → ℕ → ℕ → List Wire
wires_from spots links at zero = []
wires_from spots links at (suc n) = option_to_list (wire_of spots links at) ++ wires_from spots links (at + 1) n

-- the boundary ends at the places of a symbol, from place i + 1 on
abbrev pub boundary_from : Tables → List TextSpot → List Link → ℕ → ℕ → ℕ → ℕ → List FreeEnd
boundary_from t spots links s i k zero = []
boundary_from t spots links s i k (suc n) = record { name = []; kind = port_at t s (i + 1); end = partner_of spots links k } ∷ boundary_from t spots links s (i + 1) (k + 1) n

-- the boundary ends of a symbol, the first of which has that number
abbrev pub boundary_of : Tables → List TextSpot → List Link → ℕ → ℕ → List FreeEnd
boundary_of t spots links s k = boundary_from t spots links s 0 k (arity_of t s)
