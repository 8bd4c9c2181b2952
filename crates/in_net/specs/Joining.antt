-- How the joints of a text become wires. No public contract names this.
use Rattle.std.specs.Prelude.{ℕ, zero, suc, cond, nat_lt, ◌==◌, ◌+◌, ◌<◌, List, [], ◌∷◌, length, slice_set, slice_index_or, Option, Some, None}
use Rattle.std.specs.List.{AllByRecursion}
use Rattle.in_syntax.specs.declared.places.Place.{Place}
use Rattle.in_syntax.specs.Refusals.{earlier}
use Rattle.in_net.specs.declared.reading.TextSpot.{TextSpot}
use Rattle.in_net.specs.declared.reading.TextJoint.{TextJoint}
use Rattle.in_net.specs.declared.reading.Reading.{Reading}
use Rattle.in_net.specs.declared.joining.Link.{Link}
use Rattle.in_net.specs.declared.joining.Joining.{Joining}
use Rattle.in_net.specs.declared.joining.Joined.{Joined}
use Rattle.in_net.specs.declared.counting.Seen.{Seen}
use Rattle.in_net.specs.declared.counting.Seen.TheVariants.{Never, Once, Twice, Often}
use Rattle.in_net.specs.Counting.{name_of, seen_again, none_seen, SeenInside}

abbrev pub start_place : Place
start_place = record { from = 0; to = 0; line = 1; col = 1 }

abbrev pub self_link : ℕ → Link
self_link k = record { to = k; place = start_place }

-- each spot by itself
abbrev pub self_links : ℕ → ℕ → List Link
self_links k zero = []
self_links k (suc n) = self_link k ∷ self_links (k + 1) n

abbrev pub no_link : Link
no_link = record { to = 0; place = record { from = 0; to = 0; line = 0; col = 0 } }

-- both spots lead to each other
abbrev pub with_link : List Link → ℕ → ℕ → Place → List Link
with_link links one other place = slice_set (slice_set links one (record { to = other; place = place })) other (record { to = one; place = place })

abbrev pub with_joints : List Link → List TextJoint → List Link
with_joints links [] = links
with_joints links (j ∷ js) = with_joints (with_link links (j.one + j.port) j.other j.place) js

abbrev pub later_of : Place → Place → Place
later_of one other = cond (nat_lt other.from one.from) one other

abbrev pub apart : List Link → ℕ → ℕ → List Link
apart links one other =
    slice_set (slice_set links one (record { to = one; place = (slice_index_or links one no_link).place })) other (record { to = other; place = (slice_index_or links other no_link).place })

-- the partners of two spots are joined, at the later place; or the wire is closed, at its place
abbrev pub merged : List Link → ℕ → ℕ → List Link × Option Place
merged links one other =
    let p = slice_index_or links one no_link in
    let q = slice_index_or links other no_link in
    cond (p.to == other) (apart links one other, Some p.place) (with_link (apart links one other) p.to q.to (later_of p.place q.place), None)

-- the second spot of a name is joined to the first
abbrev pub met : List Link → Seen → ℕ → List Link × Option Place
met links Never at = (links, None)
met links (Once one) at = merged links one at
met links Twice at = (links, None)
met links Often at = (links, None)

abbrev pub not_named : List Link → ℕ → Joining
not_named links names = record { links = links; seen = none_seen names; closed = None }

abbrev pub joins_named : Joining → ℕ → Option ℕ → Joining
joins_named j at None = j
joins_named j at (Some m) =
    let seen = slice_index_or j.seen m Never in
    let there = met j.links seen at in
    record { links = there.0; seen = slice_set j.seen m (seen_again seen at); closed = earlier j.closed there.1 }

abbrev pub joins : Joining → ℕ → TextSpot → Joining
joins j at s = joins_named j at (name_of s)

-- joins these spots, of which the first has this number
abbrev pub joins_from : ℕ → List TextSpot → Joining → Joining
joins_from at [] j = j
joins_from at (s ∷ ss) j = joins_from (at + 1) ss (joins j at s)

-- the links of the spots by equations and arguments
abbrev pub links_of : Reading → List Link
links_of r = with_joints (self_links 0 (length r.spots)) r.joints

abbrev pub joining_of : Reading → Joining
joining_of r = joins_from 0 r.spots (not_named (links_of r) (length r.names))

abbrev pub joined_spots : Reading → Joined
joined_spots r = record { links = (joining_of r).links; closed = (joining_of r).closed }

-- ---- the numbers are in range

abbrev pub JointsInside : ℕ → List TextJoint → Type 0
JointsInside spots = AllByRecursion (λ j. (j.one + j.port < spots) × (j.other < spots))

abbrev pub LinksInside : List Link → Type 0
LinksInside links = AllByRecursion (λ l. l.to < length links) links

pub record IsJoiningInside (j : Joining) : Type 0 where
  pub links : LinksInside j.links
  pub seen : SeenInside (length j.links) j.seen
