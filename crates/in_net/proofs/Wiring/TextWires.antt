-- The wires of the net are those of its text.
use Rattle.std.proofs.Common.{◌≡◌, ◌≢◌, ◌⊎◌, inl, inr, option_map, ◌+◌, ℕ, zero, suc, ◌<◌, ◌≤◌, Bool, List, [], ◌∷◌, length, map, Option, Some, None, true, refl, sym, ◌∙◌, ap, subst, arith, get_or}
use Rattle.std.specs.List.{AllByRecursion}
use Rattle.in_syntax.specs.declared.places.Place.{Place}
use Rattle.in_syntax.specs.Order.{Rises}
use Rattle.in_symbols.specs.Tables.{Tables}
use Rattle.in_net.specs.declared.reading.TextSpot.{TextSpot}
use Rattle.in_net.specs.declared.reading.TextSpot.TheVariants as spot
use Rattle.in_net.specs.declared.reading.Agent.{Agent}
use Rattle.in_net.specs.declared.reading.Reading.{Reading}
use Rattle.in_net.specs.declared.joining.Link.{Link}
use Rattle.in_net.specs.declared.nets.Point.{Point}
use Rattle.in_net.specs.declared.nets.Point.TheVariants.{Port, Free}
use Rattle.in_net.specs.declared.nets.Wire.{Wire}
use Rattle.in_net.specs.Arities.{all_arities_fit}
use Rattle.in_net.specs.Counting.{none_seen, counted_from}
use Rattle.in_net.specs.Joining.{links_of, not_named, joining_of}
use Rattle.in_net.specs.Reading.{reading_of}
use Rattle.in_net.specs.Building.{AreTwice, nth_spot, nth_link, nth_agent, IsPointSpot, point_in, IsJoined, partner_of, cells_of, wires_from}
use Rattle.in_net.specs.Built.{HaveFewPorts, IsNumbered, AreJoinedTo, AreListedOf, Assembles, IsOver, IsCellOver}
use Rattle.in_net.specs.declared.nets.Cell.{Cell}
use Rattle.in_net.specs.declared.nets.FreeEnd.{FreeEnd}
use Rattle.in_net.specs.Parts.{Parts, as_built, wire_in}
use Rattle.in_net.specs.TextNet as text
use Rattle.in_net.specs.TextNet.{Body, IsOccurrence, IsWireOf, IsClosedWireOf, HasAgentsOf, HasWiresOf, spot_at}
use Rattle.in_net.proofs.Texts.Agents.{cells_for, cells_over, places_for}
use Rattle.in_net.proofs.Wiring.ClosedWires.{found_first}
use Rattle.in_net.proofs.Refusals.FirstFault.{IsReady}
use Rattle.in_net.proofs.Wiring.Sound.{named}
use Rattle.std.proofs.lemmas.Option.{slice_get-get_or, same_Some}
use Rattle.in_net.proofs.Wiring.OneJoint.{links_apart}
use Rattle.in_net.proofs.WholeNets.PlacesApart.{AreApart, all_apart, rising_places}
use Rattle.in_net.proofs.WholeNets.Turned.{comes_before}
use Rattle.in_net.proofs.WholeNets.Points.{Stands, stands_at, partner_stands}
use Rattle.in_net.proofs.Wiring.Single.{IsReadWhole, one_wire}
use Rattle.in_net.proofs.Texts.NamesApart.{names_apart}
use Rattle.in_net.proofs.Texts.NamedSpots.{AreNamesRead, names_read}
use Rattle.in_net.proofs.WholeNets.Whole.{once_of, wire_at}
use Rattle.in_net.proofs.Wiring.Ways.{IsWay, kind_of}
use Rattle.in_net.proofs.Texts.NetRead.{AreHeadsOf, IsBodyRead, ends_in, names_in_body, body_read}
use Rattle.in_net.proofs.Texts.Order.{root_places, roots_rise}
use Rattle.in_net.proofs.Wiring.Joined.{are_joined, begun, of_text, way_of, closed_of}

-- ---- each listed wire is a wire of the text

nth_place : (as_ : List Agent) (a : ℕ) (d : Place) → a < length as_ → get_or (map (λ x. x.place) as_) a d ≡ (nth_agent as_ a).place
nth_place [] a d lt = absurd (omega (arith, lt))
nth_place (x ∷ as_) zero d lt = refl
nth_place (x ∷ as_) (suc a) d lt = nth_place as_ a d (omega (arith, lt))

no_occurrence : (m : Parts) (p : Point) → IsOccurrence (spot_at m p) → ⊥
no_occurrence m (Port x i) h = h
no_occurrence m (Free k) h = h

module _ (t : Tables) (b : Body) (free : List FreeEnd) (r : Reading) (links : List Link) (numbered : IsNumbered t (length free) r) (joined : IsJoined r.spots links) (ends : AreJoinedTo r.spots links free)
    (ways : (i : ℕ) → i < length r.spots → IsPointSpot (nth_spot r.spots i) → IsWay t b (nth_spot r.spots i) (nth_spot r.spots (nth_link links i).to) (nth_link links i).place) (wires : List Wire)
    (listed : AreListedOf (wires_from r.spots links 0 (length r.spots)) wires) where
  abbrev net : Parts
  net = as_built (cells_of t r.spots links r.agents) free wires (map (λ a. a.place) r.agents)

  -- the spot of the text for a point
  named_point : (p : Point) (k : ℕ) → Stands r.spots p k → named (nth_spot r.spots k) ≡ spot_at net p
  named_point p k h = subst (λ p. named (nth_spot r.spots k) ≡ spot_at net p) h.is (by_spot (nth_spot r.spots k) refl h.point)
    where
      by_spot : (s : TextSpot) → nth_spot r.spots k ≡ s → IsPointSpot s → named s ≡ spot_at net (point_in s)
      by_spot (spot.Port a i x) e m =
          let port = numbered.port k a i x h.inside e in
          ap (λ z. text.port_at z i) (port.name ∙ sym (nth_place r.agents a (record { from = 0; to = 0; line = 0; col = 0 }) port.agent))
      by_spot (spot.Free j n) e m = refl
      by_spot (spot.End j) e m = refl
      by_spot (spot.Occurrence n x) e m = absurd m

  -- the wire of the spot of a point
  wire_from : (x : Point) (k : ℕ) → Stands r.spots x k → IsWireOf t b (spot_at net x) (spot_at net (partner_of r.spots links k)) (nth_link links k).place
  wire_from x k stands =
      let way = ways k stands.inside stands.point in
      let other = partner_stands r.spots links joined x k stands in
      record {
        one = no_occurrence net x;
        other = no_occurrence net (partner_of r.spots links k);
        first = kind_of (nth_spot r.spots k);
        last = kind_of (nth_spot r.spots (nth_link links k).to);
        places = way.places;
        chain =
            subst (λ s. text.Chain t b (kind_of (nth_spot r.spots k)) (kind_of (nth_spot r.spots (nth_link links k).to)) s (spot_at net (partner_of r.spots links k)) way.places) (named_point x k stands)
            (subst (λ s. text.Chain t b (kind_of (nth_spot r.spots k)) (kind_of (nth_spot r.spots (nth_link links k).to)) (named (nth_spot r.spots k)) s way.places)
            (named_point (partner_of r.spots links k) (nth_link links k).to other) way.chain);
        place = way.last;
      }

  -- two wires are at two places
  places_apart : AreApart (length r.spots) links → (v w : ℕ) (d : Wire) → v < w → w < length wires → (get_or wires v d).place.from ≢ (get_or wires w d).place.from
  places_apart apart v w d lt in_ same =
      let one : wire_in net v ≡ Some ((get_or wires v d).one, (get_or wires v d).other) = ap (option_map {T = Wire} {U = Point × Point} (λ u. (u.one, u.other))) (slice_get-get_or wires v d (omega (arith, lt, in_))) in
      let other : wire_in net w ≡ Some ((get_or wires w d).one, (get_or wires w d).other) = ap (option_map {T = Wire} {U = Point × Point} (λ u. (u.one, u.other))) (slice_get-get_or wires w d in_) in
      let f = wire_at t free r links numbered joined ends wires (map (λ a. a.place) r.agents) listed v (get_or wires v d).one (get_or wires v d).other one in
      let g = wire_at t free r links numbered joined ends wires (map (λ a. a.place) r.agents) listed w (get_or wires w d).one (get_or wires w d).other other in
      let at_f : (nth_link links f.spot).place ≡ (get_or wires v d).place = same_Some (nth_link links f.spot).place (get_or wires v d).place (sym f.place ∙ ap (option_map (λ (u : Wire). u.place)) (slice_get-get_or wires v d (omega (arith, lt, in_)))) in
      let at_g : (nth_link links g.spot).place ≡ (get_or wires w d).place = same_Some (nth_link links g.spot).place (get_or wires w d).place (sym g.place ∙ ap (option_map (λ (u : Wire). u.place)) (slice_get-get_or wires w d in_)) in
      let after_f = f.later in
      let after_g = g.later in
      by_spot f.spot g.spot f.one g.one f.other g.other after_f after_g
      (apart f.spot g.spot f.one.inside g.one.inside (λ e. absurd (omega (arith, after_f, e))) (λ e. absurd (omega (arith, after_g, e))) (ap (λ (p : Place). p.from) at_f ∙ same ∙ ap (λ (p : Place). p.from) (sym at_g)))
    where
      by_spot : (k l : ℕ) → Stands r.spots (get_or wires v d).one k → Stands r.spots (get_or wires w d).one l → Stands r.spots (get_or wires v d).other (nth_link links k).to → Stands r.spots (get_or wires w d).other (nth_link links l).to →
          k < (nth_link links k).to → l < (nth_link links l).to → (k ≡ l) ⊎ ((nth_link links k).to ≡ l) → ⊥
      by_spot k l a c e f x y (inl same) =
          let one : (get_or wires v d).one ≡ (get_or wires w d).one = sym a.is ∙ ap (λ i. point_in (nth_spot r.spots i)) same ∙ c.is in
          let other : (get_or wires v d).other ≡ (get_or wires w d).other = sym e.is ∙ ap (λ i. point_in (nth_spot r.spots (nth_link links i).to)) same ∙ f.is in
          let number = once_of t free r links numbered joined ends wires (map (λ a. a.place) r.agents) listed v w (get_or wires w d).one (get_or wires w d).other
          (inl (ap (option_map {T = Wire} {U = Point × Point} (λ u. (u.one, u.other))) (slice_get-get_or wires v d (omega (arith, lt, in_))) ∙ ap (λ x. Some (x, (get_or wires v d).other)) one ∙ ap (λ x. Some ((get_or wires w d).one, x)) other))
          (inl (ap (option_map {T = Wire} {U = Point × Point} (λ u. (u.one, u.other))) (slice_get-get_or wires w d in_))) in
          absurd (omega (arith, number, lt))
      by_spot k l a c e f x y (inr same) =
          let back = ap (λ (l : Link). l.to) (joined.back k a.inside) in
          let turn : (nth_link links l).to ≡ k = ap (λ i. (nth_link links i).to) (sym same) ∙ back in
          absurd (omega (arith, x, y, same, turn))

  pub text_wires : ((x y z : text.TextSpot) (p q : Place) → IsWireOf t b x y p → IsWireOf t b x z q → y ≡ z) → AreApart (length r.spots) links → HasWiresOf t b net
  text_wires single apart = record {
    partners = λ x y e.
        let at = stands_at t free r links numbered joined ends wires (map (λ a. a.place) r.agents) x y e in
        ((nth_link links at.0).place, subst (λ y. IsWireOf t b (spot_at net x) (spot_at net y) (nth_link links at.0).place) (sym at.2) (wire_from x at.0 at.1));
    only = λ x y s p e wire.
        let at = stands_at t free r links numbered joined ends wires (map (λ a. a.place) r.agents) x y e in
        single (spot_at net x) s (spot_at net y) p (nth_link links at.0).place wire (subst (λ y. IsWireOf t b (spot_at net x) (spot_at net y) (nth_link links at.0).place) (sym at.2) (wire_from x at.0 at.1));
    wires = λ w x y p is at.
        let found = wire_at t free r links numbered joined ends wires (map (λ a. a.place) r.agents) listed w x y is in
        let place : (nth_link links found.spot).place ≡ p = same_Some (nth_link links found.spot).place p (sym found.place ∙ at) in
        subst (IsWireOf t b (spot_at net x) (spot_at net y)) place (subst (λ y. IsWireOf t b (spot_at net x) (spot_at net y) (nth_link links found.spot).place) (sym found.partner) (wire_from x found.spot found.one));
    by_place = rising_places wires listed.by_place (places_apart apart);
    turned = λ w x y is.
        let found = wire_at t free r links numbered joined ends wires (map (λ a. a.place) r.agents) listed w x y is in
        comes_before t (length free) r numbered x y found.spot (nth_link links found.spot).to found.one found.other found.later;
  }

-- ---- the reading of a body

-- a body before it is read, and its numbers: as much is read as there is, and each name twice
pub record IsGood (t : Tables) (b : Body) : Type 0 where
  pub ready : IsReady t b
  pub small : HaveFewPorts t
  pub heads : AreHeadsOf t b
  pub fits : all_arities_fit t b ≡ true
  pub twice : AreTwice (reading_of t b).spots (counted_from 0 (reading_of t b).spots (none_seen (length (reading_of t b).names)))

module _ (t : Tables) (b : Body) (good : IsGood t b) where
  pub read : IsBodyRead t b (reading_of t b)
  read = body_read t b good.small good.heads good.fits good.ready.known

  rises : Rises (root_places (reading_of t b).spots)
  rises = roots_rise t b good.ready.rises

  names : AreNamesRead t b (reading_of t b)
  names = names_read t b

  pub read_joined : IsJoined (reading_of t b).spots (joining_of (reading_of t b)).links
  read_joined = are_joined t b (ends_in t b) (names_in_body b) (reading_of t b) read.net names good.ready.differ rises good.twice

  pub read_ways : (i : ℕ) → i < length (reading_of t b).spots → IsPointSpot (nth_spot (reading_of t b).spots i) →
      IsWay t b (nth_spot (reading_of t b).spots i) (nth_spot (reading_of t b).spots (nth_link (joining_of (reading_of t b)).links i).to) (nth_link (joining_of (reading_of t b)).links i).place
  read_ways = way_of t b (ends_in t b) (names_in_body b) (reading_of t b) read.net names good.ready.differ rises good.twice

  -- a wire that is found closed is closed
  pub read_closed : (p : Place) → (joining_of (reading_of t b)).closed ≡ Some p → IsClosedWireOf t b p
  read_closed = closed_of t b (ends_in t b) (names_in_body b) (reading_of t b) read.net names good.ready.differ rises good.twice

  -- all of it, and that its joints are single
  pub read_whole : IsReadWhole t b (reading_of t b)
  read_whole = record { body = read; names = names; rises = rises; apart = names_apart t b; twice = good.twice }

  -- and it is the first closed wire
  pub read_first : (p q : Place) → (joining_of (reading_of t b)).closed ≡ Some p → IsClosedWireOf t b q → p.from ≤ q.from
  read_first p q found wire =
      let early = found_first t b (ends_in t b) (names_in_body b) (reading_of t b) read.net names good.ready.differ rises good.twice read_whole q wire in
      let same : p ≡ early.found = same_Some p early.found (sym found ∙ early.is) in
      let from = ap (λ (x : Place). x.from) same in
      let le = early.no_later in
      omega (arith, from, le)

  -- if none is found, there is none
  pub read_none : (joining_of (reading_of t b)).closed ≡ None → (q : Place) → IsClosedWireOf t b q → ⊥
  read_none none q wire =
      let early = found_first t b (ends_in t b) (names_in_body b) (reading_of t b) read.net names good.ready.differ rises good.twice read_whole q wire in
      let wrong : None ≡ Some early.found = sym none ∙ early.is in
      cc

  -- no two of its joints, and so no two of its wires, are at one place
  pub read_apart : AreApart (length (reading_of t b).spots) (joining_of (reading_of t b)).links
  read_apart =
      let r : Reading = reading_of t b in
      let spots : List TextSpot = r.spots in
      let of = of_text t b (ends_in t b) (names_in_body b) (reading_of t b) read.net names good.ready.differ rises in
      all_apart t b r.names (reading_of t b).spots of 0 (reading_of t b).spots (not_named (links_of r) (length r.names)) (omega arith) (λ i lt. let e : i ≡ 0 + i = omega arith in ap (nth_spot spots) e) good.twice
      (begun t b (ends_in t b) (names_in_body b) (reading_of t b) read.net names good.ready.differ rises) (links_apart t b (reading_of t b) read_whole good.ready.order)

-- the net that is assembled has the body's agents and wires
pub is_text_net : (t : Tables) (b : Body) (free : List FreeEnd) (r : Reading) (links : List Link) (n : Parts) → IsGood t b → r ≡ reading_of t b → links ≡ (joining_of r).links → length free ≡ ends_in t b → AreJoinedTo r.spots links free →
    Assembles t r links free n → IsOver t n × HasAgentsOf t b n × HasWiresOf t b n
is_text_net t b free r links n good is_read is_joined count ends made =
    let r0 : Reading = reading_of t b in
    let links0 : List Link = (joining_of (reading_of t b)).links in
    let same_links : links ≡ (joining_of (reading_of t b)).links = is_joined ∙ ap (λ r. (joining_of r).links) is_read in
    let P : Reading → List Link → Type 0 = λ r links. Assembles t r links free n in
    let E : Reading → List Link → Type 0 = λ r links. AreJoinedTo r.spots links free in
    let at_read : Assembles t (reading_of t b) (joining_of (reading_of t b)).links free n = subst (P (reading_of t b)) same_links (subst (λ r. P r links) is_read made) in
    let ends0 : AreJoinedTo (reading_of t b).spots (joining_of (reading_of t b)).links free = subst (E (reading_of t b)) same_links (subst (λ r. E r links) is_read ends) in
    let numbered = (read t b good).net.read.numbered in
    let wires = text_wires t b free r0 links0 (subst (λ k. IsNumbered t k (reading_of t b)) (sym count) numbered) (read_joined t b good) ends0 (read_ways t b good) n.wires at_read.wires (one_wire t b (reading_of t b) (read_whole t b good)) (read_apart t b good) in
    let parts : as_built (cells_of t (reading_of t b).spots (joining_of (reading_of t b)).links (reading_of t b).agents) free n.wires (map (λ a. a.place) (reading_of t b).agents) ≡ n =
    parts_are n _ _ _ at_read.cells at_read.free_ends at_read.places at_read.built in (
      record { cells = subst (AllByRecursion (IsCellOver t)) (sym at_read.cells) (cells_over t r0.spots links0 r0.agents (read t b good).net.read.known) },
      record {
        built = at_read.built;
        agents = cells_for t b r0 links0 n.cells refl at_read.cells;
        places = places_for t b r0 n.places refl at_read.places;
      },
      subst (HasWiresOf t b) parts wires,
    )
  where
    parts_are : (n : Parts) (cells : List (Option Cell)) (free : List FreeEnd) (places : List Place) → n.cells ≡ cells → n.free ≡ free → n.places ≡ places → n.built ≡ true → as_built cells free n.wires places ≡ n
    parts_are n cells free places a b c d =
        ap (λ z. as_built z free n.wires places) (sym a) ∙ ap (λ z. as_built n.cells z n.wires places) (sym b) ∙ ap (λ z. as_built n.cells n.free n.wires z) (sym c)
        ∙ ap (λ (x : Bool). let m : Parts = record { cells = n.cells; free = n.free; wires = n.wires; places = n.places; built = x } in m) (sym d)
