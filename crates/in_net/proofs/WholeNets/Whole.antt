-- The parts that were read and joined are whole: each point is in exactly one wire.
use Rattle.std.proofs.Common.{◌≡◌, ◌≢◌, ◌⊎◌, inl, inr, ℕ, zero, suc, ◌+◌, ◌<◌, ◌≤◌, Bool, true, false, ◌&&◌, ◌==◌, cond, nat_lt, List, [], ◌∷◌, ◌++◌, length, length-append, map, Option, Some, None, option_map, option_and_then, slice_get, refl, sym, ◌∙◌, ap, subst, arith, get_or, Contains, ltb-true, ltb-false}
use Rattle.std.specs.Prelude.{option_to_list}
use Rattle.std.specs.List.{AllByRecursion, IsDistinct}
use Rattle.std.proofs.lemmas.Bool.{eqb-true, true≢false, and_from, and_parts, false_from_ne_true, cases_eq, cases_lt}
use Rattle.std.proofs.lemmas.Bool.Decides.{Decides-eqb}
use Rattle.std.specs.Bool.{one_answer, Decides}
use Rattle.std.proofs.lemmas.List.{length-map}
use Rattle.std.proofs.lemmas.List.Sorted.{All-permutation, Contains-permutation, length_permutation}
use Rattle.std.proofs.lemmas.List.Elements.{recursion_from_All, All-from_recursion, Contains-append_left, Contains-append_right}
use Rattle.std.proofs.lemmas.Map.Keys.{IsDistinct-IsPermutation}
use Rattle.std.proofs.lemmas.Option.{slice_get-get_or}
use Rattle.in_syntax.specs.declared.places.Place.{Place}
use Rattle.in_syntax.specs.Grammar.{max_ports}
use Rattle.in_symbols.specs.Tables.{Tables, arity_of}
use Rattle.in_net.specs.declared.reading.TextSpot.{TextSpot}
use Rattle.in_net.specs.declared.reading.Reading.{Reading}
use Rattle.in_net.specs.declared.joining.Link.{Link}
use Rattle.in_net.specs.declared.nets.Cell.{Cell}
use Rattle.in_net.specs.declared.reading.Agent.{Agent}
use Rattle.in_net.specs.declared.nets.AgentNo.{AgentNo}
use Rattle.in_net.specs.declared.nets.Point.{Point}
use Rattle.in_net.specs.declared.nets.Point.TheVariants.{Port, Free}
use Rattle.in_net.specs.declared.nets.Wire.{Wire}
use Rattle.in_net.specs.Building.{nth_spot, nth_link, point_in, IsJoined, partner_of, cell_of, cells_of, wire_of, wires_from}
use Rattle.in_net.specs.declared.nets.FreeEnd.{FreeEnd}
use Rattle.in_net.specs.Built.{HaveFewPorts, IsNumbered, IsReadFrom, AreJoinedTo, AreListedOf}
use Rattle.in_net.specs.Parts.{Parts, IsWhole, IsWireBetween, as_built, partner_in, wire_in, wire_place_in}
use Rattle.in_net.proofs.Texts.Agents.{length-ends}
use Rattle.in_net.proofs.WholeNets.Points.{Stands, point_here, partner_stands, partner_back, only_one, partner_at, stands_at, leads_back, never_itself}
use Rattle.in_base.proofs.Each.{all_append}

-- ---- the wires that are found, one for each spot that is joined to a later one

-- the wire was found at that spot
pub record IsFoundAt (spots : List TextSpot) (links : List Link) (from k : ℕ) (w : Wire) : Type 0 where
  pub after : from ≤ k
  pub inside : k < length spots
  pub later : k < (nth_link links k).to
  pub is : w ≡ record { one = point_in (nth_spot spots k); other = partner_of spots links k; place = (nth_link links k).place }

abbrev pub IsFound : List TextSpot → List Link → ℕ → Wire → Type 0
IsFound spots links from w = (k : ℕ) × IsFoundAt spots links from k w

abbrev pub found_wire : List TextSpot → List Link → ℕ → Wire
found_wire spots links k = record { one = point_in (nth_spot spots k); other = partner_of spots links k; place = (nth_link links k).place }

wire_by : (spots : List TextSpot) (links : List Link) (at : ℕ) (b : Bool) → nat_lt at (nth_link links at).to ≡ b → at < length spots →
    AllByRecursion (IsFound spots links at) (option_to_list (cond b (Some (found_wire spots links at)) None))
wire_by spots links at true is lt = ((at, record { after = omega arith; inside = lt; later = ltb-true at (nth_link links at).to is; is = refl }), tt)
wire_by spots links at false is lt = tt

all_found : (spots : List TextSpot) (links : List Link) (from n : ℕ) → from + n ≤ length spots → AllByRecursion (IsFound spots links from) (wires_from spots links from n)
all_found spots links from zero le = tt
all_found spots links from (suc n) le =
    all_append (IsFound spots links from) (option_to_list (wire_of spots links from)) (wires_from spots links (from + 1) n)
    (here (nat_lt from (nth_link links from).to) refl)
    (weaker (wires_from spots links (from + 1) n) (all_found spots links (from + 1) n (omega (arith, le))))
  where
    here : (b : Bool) → nat_lt from (nth_link links from).to ≡ b → AllByRecursion (IsFound spots links from) (option_to_list (cond b (Some (found_wire spots links from)) None))
    here b is = wire_by spots links from b is (omega (arith, le))

    weaker : (ws : List Wire) → AllByRecursion (IsFound spots links (from + 1)) ws → AllByRecursion (IsFound spots links from) ws
    weaker [] h = tt
    weaker (w ∷ ws) h = ((h.0.0, record { after = let a = h.0.1.after in omega (arith, a); inside = h.0.1.inside; later = h.0.1.later; is = h.0.1.is }), weaker ws h.1)

-- ---- no wire is found twice

abbrev pub eq_point : Point → Point → Bool
eq_point (Port a i) (Port c j) = (a.0 == c.0) && (i == j)
eq_point (Port a i) (Free l) = false
eq_point (Free k) (Port c j) = false
eq_point (Free k) (Free l) = k == l

eq_point-Decides : (p q : Point) → Decides (eq_point p q) (p ≡ q)
eq_point-Decides (Port a i) (Port c j) = (
  (λ e.
      let parts = and_parts (a.0 == c.0) (i == j) e in
      let agent : a.0 ≡ c.0 = eqb-true a.0 c.0 parts.0 in
      ap (λ n. let x : AgentNo = record { 0 = n } in Port x i) agent ∙ ap (Port c) (eqb-true i j parts.1)),
  (λ e.
      let agent : a ≡ c = cc in
      let place : i ≡ j = cc in
      and_from (a.0 == c.0) (i == j) ((Decides-eqb a.0 c.0).1 (ap (λ (n : AgentNo). n.0) agent)) ((Decides-eqb i j).1 place)),
)
eq_point-Decides (Port a i) (Free l) = ((λ e. cc), (λ e. cc))
eq_point-Decides (Free k) (Port c j) = ((λ e. cc), (λ e. cc))
eq_point-Decides (Free k) (Free l) = ((λ e. ap Free (eqb-true k l e)), (λ e. (Decides-eqb k l).1 (let same : k ≡ l = cc in same)))

turns : (p q : Point) → eq_point p q ≡ eq_point q p
turns p q = one_answer (eq_point p q) (eq_point q p) (eq_point-Decides p q) (((λ e. sym ((eq_point-Decides q p).0 e)), (λ e. (eq_point-Decides q p).1 (sym e))))

abbrev pub same_one : Wire → Wire → Bool
same_one v w = eq_point v.one w.one

distinct_at : (ws : List Wire) (i j : ℕ) (d : Wire) → i < j → j < length ws → IsDistinct same_one ws → same_one (get_or ws i d) (get_or ws j d) ≡ false
unfolding IsDistinct
distinct_at [] i j d lt in_ h = absurd (omega (arith, in_))
distinct_at (w ∷ ws) zero zero d lt in_ h = absurd (omega (arith, lt))
distinct_at (w ∷ ws) zero (suc j) d lt in_ h = later ws j (omega (arith, in_)) h.0
  where
    later : (vs : List Wire) (j : ℕ) → j < length vs → AllByRecursion (λ y. same_one w y ≡ false) vs → same_one w (get_or vs j d) ≡ false
    later [] j lt all = absurd (omega (arith, lt))
    later (v ∷ vs) zero lt all = all.0
    later (v ∷ vs) (suc j) lt all = later vs j (omega (arith, lt)) all.1
distinct_at (w ∷ ws) (suc i) zero d lt in_ h = absurd (omega (arith, lt))
distinct_at (w ∷ ws) (suc i) (suc j) d lt in_ h = distinct_at ws i j d (omega (arith, lt)) (omega (arith, in_)) h.1

module _ (t : Tables) (r : Reading) (links : List Link) (read : (p : Point) (k l : ℕ) → Stands r.spots p k → Stands r.spots p l → k ≡ l) (joined : IsJoined r.spots links) where
  -- the spots of the two points of a found wire
  one_stands : (from k : ℕ) (w : Wire) → IsFoundAt r.spots links from k w → Stands r.spots w.one k
  one_stands from k w f = record {
    inside = f.inside;
    point = point_here r.spots links joined k f.inside (λ e. absurd (let l = f.later in omega (arith, l, e)));
    is = sym (ap (λ (w : Wire). w.one) f.is);
  }

  other_stands : (from k : ℕ) (w : Wire) → IsFoundAt r.spots links from k w → Stands r.spots w.other (nth_link links k).to
  other_stands from k w f =
      subst (λ p. Stands r.spots p (nth_link links k).to) (sym (ap (λ (w : Wire). w.other) f.is)) (partner_stands r.spots links joined w.one k (one_stands from k w f))

  distinct_found : (from n : ℕ) → from + n ≤ length r.spots → IsDistinct same_one (wires_from r.spots links from n)
  unfolding IsDistinct
  distinct_found from zero le = tt
  distinct_found from (suc n) le = by_test (nat_lt from (nth_link links from).to) refl (distinct_found (from + 1) n (omega (arith, le)))
    where
      apart : (w : Wire) → IsFoundAt r.spots links from from w → (ws : List Wire) → AllByRecursion (IsFound r.spots links (from + 1)) ws → AllByRecursion (λ y. same_one w y ≡ false) ws
      apart w f [] h = tt
      apart w f (v ∷ ws) h =
          let other : eq_point w.one v.one ≡ true → ⊥ = λ e.
          (let same = (eq_point-Decides w.one v.one).0 e in
          let one : Stands r.spots v.one from = subst (λ p. Stands r.spots p from) same (one_stands from from w f) in
          let k = read v.one from h.0.0 one (one_stands (from + 1) h.0.0 v h.0.1) in
          let after = h.0.1.after in
          absurd (omega (arith, after, k))) in
          (false_from_ne_true (same_one w v) other, apart w f ws h.1)

      by_test : (b : Bool) → nat_lt from (nth_link links from).to ≡ b → IsDistinct same_one (wires_from r.spots links (from + 1) n) → IsDistinct same_one (option_to_list (cond b (Some (found_wire r.spots links from)) None) ++ wires_from r.spots links (from + 1) n)
      by_test true is h =
          (apart (found_wire r.spots links from) (record { after = omega arith; inside = omega (arith, le); later = ltb-true from (nth_link links from).to is; is = refl }) (wires_from r.spots links (from + 1) n) (all_found r.spots links (from + 1) n (omega (arith, le))), h)
      by_test false is h = h

-- a spot that is joined to a later one has its wire among those found
found_there : (spots : List TextSpot) (links : List Link) (from n k : ℕ) → from ≤ k → k < from + n → k < (nth_link links k).to → Contains (wires_from spots links from n) (found_wire spots links k)
found_there spots links from zero k le lt later = absurd (omega (arith, le, lt))
found_there spots links from (suc n) k le lt later = by_same (cases_eq k from) (λ x. found_there spots links (from + 1) n k (omega (arith, le, x)) (omega (arith, lt)) later)
  where
    by_same : (k ≡ from) ⊎ (k ≢ from) → (k ≢ from → Contains (wires_from spots links (from + 1) n) (found_wire spots links k)) → Contains (wires_from spots links from (suc n)) (found_wire spots links k)
    by_same (inl e) next =
        let less : from < (nth_link links from).to = subst (λ k. k < (nth_link links k).to) e later in
        Contains-append_left (option_to_list (wire_of spots links from)) (wires_from spots links (from + 1) n) (found_wire spots links k)
        (subst (λ z. Contains (option_to_list (wire_of spots links from)) (found_wire spots links z)) (sym e) (by_test (nat_lt from (nth_link links from).to) refl less))
      where
        by_test : (b : Bool) → nat_lt from (nth_link links from).to ≡ b → from < (nth_link links from).to → Contains (option_to_list (cond b (Some (found_wire spots links from)) None)) (found_wire spots links from)
        by_test true is less = (0, omega arith, refl)
        by_test false is less = absurd (let no_ = ltb-false from (nth_link links from).to is in omega (arith, no_, less))
    by_same (inr e) next = Contains-append_right (option_to_list (wire_of spots links from)) (wires_from spots links (from + 1) n) (found_wire spots links k) (next e)

few_found : (spots : List TextSpot) (links : List Link) (from n : ℕ) → length (wires_from spots links from n) ≤ n
few_found spots links from zero = omega arith
few_found spots links from (suc n) =
    let one : length (option_to_list (wire_of spots links from)) ≤ 1 = at_most (wire_of spots links from) in
    omega (arith, one, few_found spots links (from + 1) n, length-append (option_to_list (wire_of spots links from)) (wires_from spots links (from + 1) n))
  where
    at_most : (o : Option Wire) → length (option_to_list o) ≤ 1
    at_most None = omega arith
    at_most (Some w) = omega arith

-- ---- the whole net

some_pair : {X Y : Type 0} (a c : X) (b d : Y) → ◌≡◌ {A = Option (X × Y)} (Some (a, b)) (Some (c, d)) → (a ≡ c) × (b ≡ d)
some_pair {X} {Y} a c b d e = let same : ◌≡◌ {A = X × Y} (a, b) (c, d) = cc in (ap (λ (p : X × Y). p.0) same, ap (λ (p : X × Y). p.1) same)

no_pair : {Y : Type 0} (y : Y) → ◌≡◌ {A = Option Y} None (Some y) → ⊥
no_pair y e = cc

module _ (t : Tables) (free : List FreeEnd) (r : Reading) (links : List Link) (numbered : IsNumbered t (length free) r) (joined : IsJoined r.spots links) (ends : AreJoinedTo r.spots links free) (wires : List Wire) (places : List Place)
    (listed : AreListedOf (wires_from r.spots links 0 (length r.spots)) wires) where
  abbrev found : List Wire
  found = wires_from r.spots links 0 (length r.spots)

  abbrev net : Parts
  net = as_built (cells_of t r.spots links r.agents) free wires places

  all_listed : AllByRecursion (IsFound r.spots links 0) wires
  all_listed =
      recursion_from_All (IsFound r.spots links 0) wires
      (All-permutation (IsFound r.spots links 0) found wires listed.same (All-from_recursion (IsFound r.spots links 0) found (all_found r.spots links 0 (length r.spots) (omega arith))))

  distinct : IsDistinct same_one wires
  distinct = IsDistinct-IsPermutation same_one (λ v w. turns v.one w.one) found wires listed.same (distinct_found t r links (only_one t free r links numbered joined ends wires places) joined 0 (length r.spots) (omega arith))

  -- the wire of that number, and the spot where it was found
  pub record IsWireAt (w : ℕ) (p q : Point) : Type 0 where
    pub inside : w < length wires
    pub spot : ℕ
    pub one : Stands r.spots p spot
    pub other : Stands r.spots q (nth_link links spot).to
    pub later : spot < (nth_link links spot).to
    pub partner : q ≡ partner_of r.spots links spot
    pub listed_one : (d : Wire) → (get_or wires w d).one ≡ p
    pub place : wire_place_in net w ≡ Some (nth_link links spot).place

  wire_found : (w : ℕ) (p q : Point) (ws : List Wire) → AllByRecursion (IsFound r.spots links 0) ws → option_map {U = Point × Point} (λ (v : Wire). (v.one, v.other)) (slice_get ws w) ≡ Some (p, q) →
      (w < length ws) × ((d : Wire) → (get_or ws w d).one ≡ p) × ((v : Wire) × (v.one ≡ p) × (v.other ≡ q) × IsFound r.spots links 0 v × (option_map (λ (v : Wire). v.place) (slice_get ws w) ≡ Some v.place))
  wire_found w p q [] all e = absurd (no_pair (p, q) e)
  wire_found zero p q (v ∷ ws) all e =
      let same = some_pair v.one p v.other q e in
      (omega arith, (λ d. same.0), (v, same.0, same.1, all.0, refl))
  wire_found (suc w) p q (v ∷ ws) all e =
      let rest = wire_found w p q ws all.1 e in
      (omega (arith, rest.0), rest.1, rest.2)

  pub wire_at : (w : ℕ) (p q : Point) → wire_in net w ≡ Some (p, q) → IsWireAt w p q
  wire_at w p q e =
      let here = wire_found w p q wires all_listed e in
      let v : Wire = here.2.0 in
      let k : ℕ = here.2.3.0 in
      let f = here.2.3.1 in
      record {
        inside = here.0;
        spot = here.2.3.0;
        one = subst (λ x. Stands r.spots x here.2.3.0) here.2.1 (one_stands t r links (only_one t free r links numbered joined ends wires places) joined 0 k v f);
        other = subst (λ x. Stands r.spots x (nth_link links here.2.3.0).to) here.2.2 (other_stands t r links (only_one t free r links numbered joined ends wires places) joined 0 k v f);
        later = f.later;
        partner = sym here.2.2 ∙ ap (λ (w : Wire). w.other) f.is;
        listed_one = here.1;
        place = here.2.4 ∙ ap (λ (w : Wire). Some w.place) f.is;
      }

  partners_of : (w : ℕ) (p q : Point) → wire_in net w ≡ Some (p, q) → partner_in net p ≡ Some q
  partners_of w p q e = let at = wire_at w p q e in partner_at t free r links numbered joined ends wires places p at.spot at.one ∙ ap Some (sym at.partner)

  -- the number of a found wire
  number_of : (k : ℕ) → k < length r.spots → k < (nth_link links k).to → (w : ℕ) × (wire_in net w ≡ Some (point_in (nth_spot r.spots k), partner_of r.spots links k))
  number_of k lt later =
      let there = Contains-permutation found wires (found_wire r.spots links k) listed.same (found_there r.spots links 0 (length r.spots) k (omega arith) (omega (arith, lt)) later) in
      (there.0, ap (option_map {T = Wire} {U = Point × Point} (λ v. (v.one, v.other))) (slice_get-get_or wires there.0 (found_wire r.spots links k) there.1 ∙ ap Some there.2))

  listed_of : (p q : Point) → partner_in net p ≡ Some q → (w : ℕ) × IsWireBetween net w p q
  listed_of p q e =
      let at = stands_at t free r links numbered joined ends wires places p q e in
      by_side at.0 at.1 at.2 (cases_lt at.0 (nth_link links at.0).to)
    where
      by_side : (k : ℕ) → Stands r.spots p k → q ≡ partner_of r.spots links k → (k < (nth_link links k).to) ⊎ ((nth_link links k).to ≤ k) → (w : ℕ) × IsWireBetween net w p q
      by_side k stands is (inl later) =
          let w = number_of k stands.inside later in
          (w.0, inl (w.1 ∙ ap (λ x. Some (x, partner_of r.spots links k)) stands.is ∙ ap (λ x. Some (p, x)) (sym is)))
      by_side k stands is (inr before) =
          let differ = joined.apart k stands.inside stands.point in
          let back = ap (λ (l : Link). l.to) (joined.back k stands.inside) in
          let less : (nth_link links k).to < (nth_link links (nth_link links k).to).to = omega (arith, differ, back, before) in
          let w = number_of (nth_link links k).to (joined.inside k stands.inside) less in
          (w.0, inr (w.1 ∙ ap (λ x. Some (partner_of r.spots links k, x)) (partner_back r.spots links joined p k stands) ∙ ap (λ x. Some (x, p)) (sym is)))

  not_turned : (v w : ℕ) (p q : Point) → wire_in net v ≡ Some (p, q) → wire_in net w ≡ Some (q, p) → ⊥
  not_turned v w p q a b =
      let f = wire_at v p q a in
      let g = wire_at w q p b in
      let one = only_one t free r links numbered joined ends wires places q (nth_link links f.spot).to g.spot f.other g.one in
      let other = only_one t free r links numbered joined ends wires places p (nth_link links g.spot).to f.spot g.other f.one in
      absurd (let l = f.later in let m = g.later in omega (arith, one, other, l, m))

  same_number : (v w : ℕ) (p q : Point) → wire_in net v ≡ Some (p, q) → wire_in net w ≡ Some (p, q) → v ≡ w
  same_number v w p q a b = by_order (cases_eq v w) (cases_lt v w)
    where
      f : IsWireAt v p q
      f = wire_at v p q a

      g : IsWireAt w p q
      g = wire_at w p q b

      ordered : (v w : ℕ) → IsWireAt v p q → IsWireAt w p q → v < w → ⊥
      ordered v w f g lt =
          let apart = distinct_at wires v w (found_wire r.spots links 0) lt g.inside distinct in
          let same : eq_point (get_or wires v (found_wire r.spots links 0)).one (get_or wires w (found_wire r.spots links 0)).one ≡ true =
          (eq_point-Decides (get_or wires v (found_wire r.spots links 0)).one (get_or wires w (found_wire r.spots links 0)).one).1 (f.listed_one (found_wire r.spots links 0) ∙ sym (g.listed_one (found_wire r.spots links 0))) in
          true≢false (sym same ∙ apart)

      by_order : (v ≡ w) ⊎ (v ≢ w) → (v < w) ⊎ (w ≤ v) → v ≡ w
      by_order (inl e) s = e
      by_order (inr e) (inl s) = absurd (ordered v w f g s)
      by_order (inr e) (inr s) = absurd (ordered w v g f (omega (arith, e, s)))

  pub once_of : (v w : ℕ) (p q : Point) → IsWireBetween net v p q → IsWireBetween net w p q → v ≡ w
  once_of v w p q (inl a) (inl b) = same_number v w p q a b
  once_of v w p q (inl a) (inr b) = absurd (not_turned v w p q a b)
  once_of v w p q (inr a) (inl b) = absurd (not_turned v w q p a b)
  once_of v w p q (inr a) (inr b) = same_number v w q p a b

  few_ports : (found : List Agent) (x : ℕ) (c : Cell) → HaveFewPorts t → option_and_then (λ c. c) (slice_get (cells_of t r.spots links found) x) ≡ Some c → length c.ends ≤ max_ports + 1
  few_ports [] x c few e = cc
  few_ports (a ∷ rest) zero c few e =
      let same : cell_of t r.spots links a ≡ c = cc in
      let n = few a.symbol.0 in
      subst (λ (c : Cell). length c.ends ≤ max_ports + 1) same (omega (arith, length-ends r.spots links a.first (arity_of t a.symbol.0 + 1), n))
  few_ports (a ∷ rest) (suc x) c few e = few_ports rest x c few e

  pub whole : IsReadFrom t (length free) r → places ≡ map (λ a. a.place) r.agents → IsWhole net
  whole read at_places =
      let agents : length (cells_of t r.spots links r.agents) ≡ length r.agents = length-map r.agents (λ a. Some (cell_of t r.spots links a)) in
      let few = few_found r.spots links 0 (length r.spots) in
      record {
        agents = let n = read.few_agents in omega (arith, agents, n);
        ports = λ x c e. few_ports r.agents x c read.few_ports e;
        ends = read.few_free;
        wires = let n = read.few_spots in omega (arith, length_permutation found wires listed.same, few, n);
        back = leads_back t free r links numbered joined ends wires places;
        apart = never_itself t free r links numbered joined ends wires places;
        listed = listed_of;
        partners = partners_of;
        once = once_of;
        placed = λ b. ap length at_places ∙ length-map r.agents (λ a. a.place) ∙ sym agents;
      }
