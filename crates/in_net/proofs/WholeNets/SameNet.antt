-- A text has one net.
use Rattle.std.proofs.Common.{◌≡◌, inl, inr, ℕ, zero, suc, ◌<◌, List, [], ◌∷◌, length, map, Option, Some, None, IsSomeAnd, option_map, option_and_then, slice_get, slice_index_or, refl, sym, ◌∙◌, ap, subst, arith}
use Rattle.std.specs.List.{AllByRecursion}
use Rattle.in_syntax.specs.declared.places.Place.{Place}
use Rattle.in_syntax.specs.declared.tree.SourceFree.{SourceFree}
use Rattle.in_syntax.specs.declared.tree.SourceNet.{SourceNet}
use Rattle.in_syntax.specs.declared.tree.SourceRule.{SourceRule}
use Rattle.in_syntax.specs.Order.{Rises}
use Rattle.in_symbols.specs.Tables.{Tables}
use Rattle.in_net.specs.Laws.{HasPointsOf}
use Rattle.in_net.specs.declared.nets.AgentNo.{AgentNo}
use Rattle.in_net.specs.declared.nets.Cell.{Cell}
use Rattle.in_net.specs.declared.nets.FreeEnd.{FreeEnd}
use Rattle.in_net.specs.declared.nets.Wire.{Wire}
use Rattle.in_net.specs.declared.nets.Point.{Point}
use Rattle.in_net.specs.declared.nets.Point.TheVariants.{Port, Free}
use Rattle.in_net.specs.Parts.{Parts, IsWhole, IsPointOf, IsWireBetween, cell_in, partner_in, wire_in}
use Rattle.in_net.specs.Rules.{IsRightMemberOf, body_of_rule}
use Rattle.in_net.specs.TextNet.{Body, TextSpot, Written, AreCellsFor, AreFreeOf, agents_of_body, body_of, ComesBefore, HasAgentsOf, HasWiresOf, IsNetOf, IsWireOf, port_at, free_end, spot_at}
use Rattle.std.proofs.lemmas.Option.{same_Some, slice_get_within}
use Rattle.in_net.proofs.WholeNets.WireAt.{has_partner}
use Rattle.in_base.proofs.Each.{at_index}

-- a wire of the text from a spot is one wire: it leads to one spot, and is at one place
abbrev pub AreSingle : Tables → Body → Type 0
AreSingle t b = (x y z : TextSpot) (p q : Place) → IsWireOf t b x y p → IsWireOf t b x z q → (y ≡ z) × (p ≡ q)

-- by the order of a text its agents have different places
abbrev pub StandApart : List Place → Type 0
StandApart ps = (i j : ℕ) (p : Place) → slice_get ps i ≡ Some p → slice_get ps j ≡ Some p → i ≡ j

-- ---- lists

pub all_same : {X : Type 0} (xs ys : List X) → ((i : ℕ) → slice_get xs i ≡ slice_get ys i) → xs ≡ ys
all_same [] [] h = refl
all_same [] (y ∷ ys) h = let wrong : None ≡ Some y = h 0 in cc
all_same (x ∷ xs) [] h = let wrong : Some x ≡ None = h 0 in cc
all_same (x ∷ xs) (y ∷ ys) h =
    let one : Some x ≡ Some y = h 0 in
    let rest : xs ≡ ys = all_same xs ys (λ i. h (suc i)) in
    cc

-- ---- rising lists with the same elements are equal

abbrev Holds : {X : Type 0} → List X → X → Type 0
Holds xs x = (i : ℕ) × (slice_get xs i ≡ Some x)

after_all : (f : Wire → Place) (p : Place) (ys : List Wire) (i : ℕ) (y : Wire) → AllByRecursion (λ q. p.from < q.from) (map f ys) → slice_get ys i ≡ Some y → p.from < (f y).from
after_all f p [] i y all is = cc
after_all f p (z ∷ ys) zero y all is = let same : z ≡ y = cc in subst (λ y. p.from < (f y).from) same all.0
after_all f p (z ∷ ys) (suc i) y all is = after_all f p ys i y all.1 is

abbrev place_at : Wire → Place
place_at w = w.place

pub one_rising : (xs ys : List Wire) → Rises (map place_at xs) → Rises (map place_at ys) → ((x : Wire) → Holds xs x → Holds ys x) → ((y : Wire) → Holds ys y → Holds xs y) → xs ≡ ys
one_rising [] [] up vp to from = refl
one_rising [] (y ∷ ys) up vp to from = let bad = from y (0, refl) in let wrong : None ≡ Some y = bad.1 in cc
one_rising (x ∷ xs) [] up vp to from = let bad = to x (0, refl) in let wrong : None ≡ Some x = bad.1 in cc
one_rising (x ∷ xs) (y ∷ ys) up vp to from =
    let same : x ≡ y = heads (to x (0, refl)) (from y (0, refl)) in
    let rest : xs ≡ ys = one_rising xs ys up.1 vp.1 (λ z h. tail_to same z h) (λ z h. tail_from same z h) in
    cc
  where
    heads : Holds (y ∷ ys) x → Holds (x ∷ xs) y → x ≡ y
    heads (zero, is) k = sym (same_Some y x is)
    heads (suc i, is) (zero, at) = same_Some x y at
    heads (suc i, is) (suc j, at) = absurd (let a = after_all place_at y.place ys i x vp.0 is in let b = after_all place_at x.place xs j y up.0 at in omega (arith, a, b))

    tail_to : x ≡ y → (z : Wire) → Holds xs z → Holds ys z
    tail_to same z (i, is) = by_index (to z (suc i, is))
      where
        by_index : Holds (y ∷ ys) z → Holds ys z
        by_index (zero, at) =
            let up_z = after_all place_at x.place xs i z up.0 is in
            let eq : y.place.from ≡ z.place.from = ap (λ (w : Wire). w.place.from) (same_Some y z at) in
            let eq_x : x.place.from ≡ y.place.from = ap (λ (w : Wire). w.place.from) same in
            absurd (omega (arith, up_z, eq, eq_x))
        by_index (suc j, at) = (j, at)

    tail_from : x ≡ y → (z : Wire) → Holds ys z → Holds xs z
    tail_from same z (i, is) = by_index (from z (suc i, is))
      where
        by_index : Holds (x ∷ xs) z → Holds xs z
        by_index (zero, at) =
            let up_z = after_all place_at y.place ys i z vp.0 is in
            let eq : x.place.from ≡ z.place.from = ap (λ (w : Wire). w.place.from) (same_Some x z at) in
            let eq_x : x.place.from ≡ y.place.from = ap (λ (w : Wire). w.place.from) same in
            absurd (omega (arith, up_z, eq, eq_x))
        by_index (suc j, at) = (j, at)

-- ---- elements of two lists, one by one

abbrev pub SameCell : Option (Option Cell) → Option (Option Cell) → Type 0
SameCell None None = Unit {0}
SameCell None (Some d) = ⊥
SameCell (Some c) None = ⊥
SameCell (Some None) (Some d) = ⊥
SameCell (Some (Some c)) (Some None) = ⊥
SameCell (Some (Some c)) (Some (Some d)) = (c.symbol.0 ≡ d.symbol.0) × (length c.ends ≡ length d.ends)

abbrev pub SameFree : Option FreeEnd → Option FreeEnd → Type 0
SameFree None None = Unit {0}
SameFree None (Some d) = ⊥
SameFree (Some e) None = ⊥
SameFree (Some e) (Some d) = (e.name ≡ d.name) × (e.kind ≡ d.kind)

same_cells : (t : Tables) (ws : List Written) (cs ds : List (Option Cell)) (x : ℕ) → AreCellsFor t ws cs → AreCellsFor t ws ds → SameCell (slice_get cs x) (slice_get ds x)
same_cells t [] [] [] x h k = tt
same_cells t [] [] (d ∷ ds) x h k = absurd k
same_cells t [] (c ∷ cs) ds x h k = absurd h
same_cells t (w ∷ ws) [] ds x h k = absurd h
same_cells t (w ∷ ws) (None ∷ cs) ds x h k = absurd h
same_cells t (w ∷ ws) (Some c ∷ cs) [] x h k = absurd k
same_cells t (w ∷ ws) (Some c ∷ cs) (None ∷ ds) x h k = absurd k
same_cells t (w ∷ ws) (Some c ∷ cs) (Some d ∷ ds) zero h k = (h.0.symbol ∙ sym k.0.symbol, h.0.ends ∙ sym k.0.ends)
same_cells t (w ∷ ws) (Some c ∷ cs) (Some d ∷ ds) (suc x) h k = same_cells t ws cs ds x h.1 k.1

same_frees : (t : Tables) (fs : List SourceFree) (es ds : List FreeEnd) (k : ℕ) → AreFreeOf t fs es → AreFreeOf t fs ds → SameFree (slice_get es k) (slice_get ds k)
same_frees t [] [] [] k a b = tt
same_frees t [] [] (d ∷ ds) k a b = absurd b
same_frees t [] (e ∷ es) ds k a b = absurd a
same_frees t (f ∷ fs) [] ds k a b = absurd a
same_frees t (f ∷ fs) (e ∷ es) [] k a b = absurd b
same_frees t (f ∷ fs) (e ∷ es) (d ∷ ds) zero a b = (a.0.0 ∙ sym b.0.0, a.0.1 ∙ sym b.0.1)
same_frees t (f ∷ fs) (e ∷ es) (d ∷ ds) (suc k) a b = same_frees t fs es ds k a.1 b.1

turn_cell : (c d : Option (Option Cell)) → SameCell c d → SameCell d c
turn_cell None None h = tt
turn_cell None (Some d) h = absurd h
turn_cell (Some c) None h = absurd h
turn_cell (Some None) (Some d) h = absurd h
turn_cell (Some (Some c)) (Some None) h = absurd h
turn_cell (Some (Some c)) (Some (Some d)) h = (sym h.0, sym h.1)

turn_free : (e d : Option FreeEnd) → SameFree e d → SameFree d e
turn_free None None h = tt
turn_free None (Some d) h = absurd h
turn_free (Some e) None h = absurd h
turn_free (Some e) (Some d) h = (sym h.0, sym h.1)

-- ---- two nets of one body

pub record AreOfOne (t : Tables) (b : Body) (n m : Parts) : Type 0 where
  pub one : HasAgentsOf t b n
  pub other : HasAgentsOf t b m
  pub wires : HasWiresOf t b n
  pub other_wires : HasWiresOf t b m
  pub whole : IsWhole n
  pub other_whole : IsWhole m
  pub frees : (k : ℕ) → SameFree (slice_get n.free k) (slice_get m.free k)

pub turn_both : (t : Tables) (b : Body) (n m : Parts) → AreOfOne t b n m → AreOfOne t b m n
turn_both t b n m h = record {
  one = h.other;
  other = h.one;
  wires = h.other_wires;
  other_wires = h.wires;
  whole = h.other_whole;
  other_whole = h.whole;
  frees = λ k. turn_free (slice_get n.free k) (slice_get m.free k) (h.frees k);
}

no_place : Place
no_place = record { from = 0; to = 0; line = 0; col = 0 }

index_is : (ps : List Place) (i : ℕ) (p d : Place) → slice_get ps i ≡ Some p → slice_index_or ps i d ≡ p
index_is [] i p d e = cc
index_is (q ∷ ps) zero p d e = cc
index_is (q ∷ ps) (suc i) p d e = index_is ps i p d e

port_parts : (p q : Place) (i j : ℕ) → port_at p i ≡ port_at q j → (p ≡ q) × (i ≡ j)
port_parts p q i j e = (cc, cc)

end_parts : (k l : ℕ) → free_end k ≡ free_end l → k ≡ l
end_parts k l e = cc

no_end : (p : Place) (i k : ℕ) → port_at p i ≡ free_end k → ⊥
no_end p i k e = cc

port_is : (x y : AgentNo) (i j : ℕ) → x.0 ≡ y.0 → i ≡ j → Port x i ≡ Port y j
port_is x y i j e f = ap (λ k. Port (record { 0 = k }) i) e ∙ ap (Port y) f

pub not_both : (x y : Point) → ComesBefore x y → ComesBefore y x → ⊥
not_both (Free k) (Free l) a b = omega (arith, a, b)
not_both (Free k) (Port y j) a b = b
not_both (Port x i) (Free l) a b = a
not_both (Port x i) (Port y j) (inl a) (inl b) = omega (arith, a, b)
not_both (Port x i) (Port y j) (inl a) (inr b) = let e = b.0 in omega (arith, a, e)
not_both (Port x i) (Port y j) (inr a) (inl b) = let e = a.0 in omega (arith, b, e)
not_both (Port x i) (Port y j) (inr a) (inr b) = let e = a.1 in let f = b.1 in omega (arith, e, f)

module _ (t : Tables) (b : Body) (n m : Parts) (single : AreSingle t b) (apart : StandApart (map (λ w. w.place) (agents_of_body t b))) (h : AreOfOne t b n m) where
  places : n.places ≡ m.places
  places = h.one.places ∙ sym h.other.places

  spot_same : (p : Point) → spot_at n p ≡ spot_at m p
  spot_same (Port x i) = ap (λ ps. port_at (slice_index_or ps x.0 (record { from = 0; to = 0; line = 0; col = 0 })) i) places
  spot_same (Free k) = refl

  cells_pair : (x : ℕ) → SameCell (slice_get n.cells x) (slice_get m.cells x)
  cells_pair x = same_cells t (agents_of_body t b) n.cells m.cells x h.one.agents h.other.agents

  point_same : HasPointsOf m n
  point_same (Port x i) there = by_cells (slice_get n.cells x.0) (slice_get m.cells x.0) (cells_pair x.0) there
    where
      by_cells : (c d : Option (Option Cell)) → SameCell c d → IsSomeAnd (option_and_then (λ c. c) c) (λ c. i < length c.ends) → IsSomeAnd (option_and_then (λ c. c) d) (λ c. i < length c.ends)
      by_cells None d same there = absurd there
      by_cells (Some None) d same there = absurd there
      by_cells (Some (Some c)) None same there = absurd same
      by_cells (Some (Some c)) (Some None) same there = absurd same
      by_cells (Some (Some c)) (Some (Some d)) same there = let e = same.1 in omega (arith, there, e)
  point_same (Free k) there =
      let one = at_index n.free k there in
      by_free (slice_get m.free k) refl (subst (λ z. SameFree z (slice_get m.free k)) one.1 (h.frees k))
    where
      by_free : (d : Option FreeEnd) → slice_get m.free k ≡ d → SameFree (Some (at_index n.free k there).0) d → k < length m.free
      by_free None is same = absurd same
      by_free (Some d) is same = slice_get_within m.free k d is

  has_cell : (x : ℕ) (i : ℕ) → IsSomeAnd (cell_in m x) (λ c. i < length c.ends) → x < length m.cells
  has_cell x i there = by_cell (slice_get m.cells x) refl there
    where
      by_cell : (o : Option (Option Cell)) → slice_get m.cells x ≡ o → IsSomeAnd (option_and_then (λ c. c) o) (λ c. i < length c.ends) → x < length m.cells
      by_cell None is there = absurd there
      by_cell (Some c) is there = slice_get_within m.cells x c is

  -- an agent has a place, and no other agent has it
  place_there : (x : ℕ) → x < length m.cells → (p : Place) × (slice_get m.places x ≡ Some p)
  place_there x lt = at_index m.places x (let e = h.other_whole.placed h.other.built in omega (arith, lt, e))

  one_point : (x y : Point) → IsPointOf m x → IsPointOf m y → spot_at m x ≡ spot_at m y → x ≡ y
  one_point (Port x i) (Port y j) a c e =
      let p = place_there x.0 (has_cell x.0 i a) in
      let q = place_there y.0 (has_cell y.0 j c) in
      let parts = port_parts _ _ i j e in
      let same : p.0 ≡ q.0 = sym (index_is m.places x.0 p.0 (record { from = 0; to = 0; line = 0; col = 0 }) p.1) ∙ parts.0 ∙ index_is m.places y.0 q.0 (record { from = 0; to = 0; line = 0; col = 0 }) q.1 in
      let number : x.0 ≡ y.0 = apart x.0 y.0 p.0 (ap (λ ps. slice_get ps x.0) (sym h.other.places) ∙ p.1) (ap (λ ps. slice_get ps y.0) (sym h.other.places) ∙ q.1 ∙ ap Some (sym same)) in
      port_is x y i j number parts.1
  one_point (Port x i) (Free l) a c e = absurd (no_end _ i l e)
  one_point (Free k) (Port y j) a c e = absurd (no_end _ j k (sym e))
  one_point (Free k) (Free l) a c e = ap Free (end_parts k l e)

  joined : (p : Point) → IsPointOf m p → (q : Point) × (partner_in m p ≡ Some q)
  joined (Port x i) there = by_cell (cell_in m x.0) refl there
    where
      by_cell : (o : Option Cell) → cell_in m x.0 ≡ o → IsSomeAnd o (λ c. i < length c.ends) → (q : Point) × (option_and_then (λ c. slice_get c.ends i) o ≡ Some q)
      by_cell None is there = absurd there
      by_cell (Some c) is there = at_index c.ends i there
  joined (Free k) there = let end = at_index m.free k there in (end.0.end, ap (option_map (λ (f : FreeEnd). f.end)) end.1)

  pub partner_same : (p x : Point) → partner_in n p ≡ Some x → partner_in m p ≡ Some x
  partner_same p x is =
      let here : IsPointOf m p = point_same p (has_partner n p x is) in
      let there : IsPointOf m x = point_same x (has_partner n x p (h.whole.back p x is)) in
      let y = joined p here in
      let wire = h.other_wires.partners p y.0 y.1 in
      let spots : spot_at m y.0 ≡ spot_at n x = h.wires.only p x (spot_at m y.0) wire.0 is (subst (λ s. IsWireOf t b s (spot_at m y.0) wire.0) (sym (spot_same p)) wire.1) in
      let same : y.0 ≡ x = one_point y.0 x (has_partner m y.0 p (h.other_whole.back p y.0 y.1)) there (spots ∙ spot_same x) in
      y.1 ∙ ap Some same

  pub holds_wire : (w : Wire) → Holds n.wires w → Holds m.wires w
  holds_wire w (i, is) =
      let two : wire_in n i ≡ Some (w.one, w.other) = ap (option_map {U = Point × Point} (λ (v : Wire). (v.one, v.other))) is in
      let found = h.other_whole.listed w.one w.other (partner_same w.one w.other (h.whole.partners i w.one w.other two)) in
      (found.0, by_turn found.0 two found.1)
    where
      no_pair : (z : Point × Point) → ◌≡◌ {A = Option (Point × Point)} None (Some z) → ⊥
      no_pair z e = cc

      by_wire : (v : ℕ) (o : Option Wire) → slice_get m.wires v ≡ o → wire_in n i ≡ Some (w.one, w.other) → option_map {U = Point × Point} (λ (v : Wire). (v.one, v.other)) o ≡ Some (w.one, w.other) → slice_get m.wires v ≡ Some w
      by_wire v None at two e = absurd (no_pair (w.one, w.other) e)
      by_wire v (Some u) at two e =
          let pairs : (u.one, u.other) ≡ (w.one, w.other) = same_Some (u.one, u.other) (w.one, w.other) e in
          let one : u.one ≡ w.one = ap (λ (z : Point × Point). z.0) pairs in
          let other : u.other ≡ w.other = ap (λ (z : Point × Point). z.1) pairs in
          let a : IsWireOf t b (spot_at m w.one) (spot_at m w.other) w.place =
          subst (λ s. IsWireOf t b (spot_at m w.one) s w.place) (spot_same w.other) (subst (λ s. IsWireOf t b s (spot_at n w.other) w.place) (spot_same w.one) (h.wires.wires i w.one w.other w.place two (ap (option_map (λ (v : Wire). v.place)) is))) in
          let c : IsWireOf t b (spot_at m u.one) (spot_at m u.other) u.place = h.other_wires.wires v u.one u.other u.place (ap (option_map {U = Point × Point} (λ (v : Wire). (v.one, v.other))) at) (ap (option_map (λ (v : Wire). v.place)) at) in
          let c1 : IsWireOf t b (spot_at m w.one) (spot_at m u.other) u.place = subst (λ z. IsWireOf t b (spot_at m z) (spot_at m u.other) u.place) one c in
          let place : u.place ≡ w.place = (single (spot_at m w.one) (spot_at m u.other) (spot_at m w.other) u.place w.place c1 a).1 in
          at ∙ ap Some (same_wire u w one other place)
        where
          same_wire : (u w : Wire) → u.one ≡ w.one → u.other ≡ w.other → u.place ≡ w.place → u ≡ w
          same_wire u w a c d =
              ap (λ z. let r : Wire = record { one = z; other = u.other; place = u.place } in r) a ∙ ap (λ z. let r : Wire = record { one = w.one; other = z; place = u.place } in r) c
              ∙ ap (λ z. let r : Wire = record { one = w.one; other = w.other; place = z } in r) d

      by_turn : (v : ℕ) → wire_in n i ≡ Some (w.one, w.other) → IsWireBetween m v w.one w.other → slice_get m.wires v ≡ Some w
      by_turn v two (inl e) = by_wire v (slice_get m.wires v) refl two e
      by_turn v two (inr e) = absurd (not_both w.one w.other (h.wires.turned i w.one w.other two) (h.other_wires.turned v w.other w.one e))

-- ---- they are equal

by_elements : {X : Type 0} (xs ys : List X) → length xs ≡ length ys → ((i : ℕ) (x : X) → slice_get xs i ≡ Some x → slice_get ys i ≡ Some x) → xs ≡ ys
by_elements [] [] e h = refl
by_elements [] (y ∷ ys) e h = absurd (omega (arith, e))
by_elements (x ∷ xs) [] e h = absurd (omega (arith, e))
by_elements (x ∷ xs) (y ∷ ys) e h =
    let one : Some y ≡ Some x = h 0 x refl in
    let rest : xs ≡ ys = by_elements xs ys (omega (arith, e)) (λ i z is. h (suc i) z is) in
    cc

pub equal_parts : (t : Tables) (b : Body) (n m : Parts) → AreSingle t b → StandApart (map (λ w. w.place) (agents_of_body t b)) → AreOfOne t b n m → n ≡ m
equal_parts t b n m single apart h =
    let cells : n.cells ≡ m.cells = all_same n.cells m.cells (λ x. cell_same x) in
    let free : n.free ≡ m.free = all_same n.free m.free (λ k. free_same k) in
    let wires : n.wires ≡ m.wires = one_rising n.wires m.wires h.wires.by_place h.other_wires.by_place (holds_wire t b n m single apart h) (holds_wire t b m n single apart (turn_both t b n m h)) in
    let places : n.places ≡ m.places = h.one.places ∙ sym h.other.places in
    let built : n.built ≡ m.built = h.one.built ∙ sym h.other.built in
    same_parts cells free wires places built
  where
    same_parts : n.cells ≡ m.cells → n.free ≡ m.free → n.wires ≡ m.wires → n.places ≡ m.places → n.built ≡ m.built → n ≡ m
    same_parts a c d e f =
        ap (λ z. let r : Parts = record { cells = z; free = n.free; wires = n.wires; places = n.places; built = n.built } in r) a
        ∙ ap (λ z. let r : Parts = record { cells = m.cells; free = z; wires = n.wires; places = n.places; built = n.built } in r) c
        ∙ ap (λ z. let r : Parts = record { cells = m.cells; free = m.free; wires = z; places = n.places; built = n.built } in r) d
        ∙ ap (λ z. let r : Parts = record { cells = m.cells; free = m.free; wires = m.wires; places = z; built = n.built } in r) e
        ∙ ap (λ z. let r : Parts = record { cells = m.cells; free = m.free; wires = m.wires; places = m.places; built = z } in r) f

    cell_same : (x : ℕ) → slice_get n.cells x ≡ slice_get m.cells x
    cell_same x = by_cells (slice_get n.cells x) (slice_get m.cells x) refl refl (cells_pair t b n m single apart h x)
      where
        cell_is : (c d : Cell) → c.symbol.0 ≡ d.symbol.0 → c.ends ≡ d.ends → c ≡ d
        cell_is c d e f = ap (λ z. let r : Cell = record { symbol = record { 0 = z }; ends = c.ends } in r) e ∙ ap (λ z. let r : Cell = record { symbol = d.symbol; ends = z } in r) f

        by_cells : (c d : Option (Option Cell)) → slice_get n.cells x ≡ c → slice_get m.cells x ≡ d → SameCell c d → slice_get n.cells x ≡ slice_get m.cells x
        by_cells None None a e same = a ∙ sym e
        by_cells None (Some d) a e same = absurd same
        by_cells (Some c) None a e same = absurd same
        by_cells (Some None) (Some d) a e same = absurd same
        by_cells (Some (Some c)) (Some None) a e same = absurd same
        by_cells (Some (Some c)) (Some (Some d)) a e same =
            let ends : c.ends ≡ d.ends = by_elements c.ends d.ends same.1 (λ i p is. end_same i p is) in
            a ∙ ap (λ (z : Cell). Some (Some z)) (cell_is c d same.0 ends) ∙ sym e
          where
            end_same : (i : ℕ) (p : Point) → slice_get c.ends i ≡ Some p → slice_get d.ends i ≡ Some p
            end_same i p is =
                let at : partner_in n (Port (record { 0 = x }) i) ≡ Some p = ap (λ o. option_and_then (λ (c : Cell). slice_get c.ends i) (option_and_then (λ c. c) o)) a ∙ is in
                let to : partner_in m (Port (record { 0 = x }) i) ≡ Some p = partner_same t b n m single apart h (Port (record { 0 = x }) i) p at in
                sym (ap (λ o. option_and_then (λ (c : Cell). slice_get c.ends i) (option_and_then (λ c. c) o)) e) ∙ to

    free_same : (k : ℕ) → slice_get n.free k ≡ slice_get m.free k
    free_same k = by_frees (slice_get n.free k) (slice_get m.free k) refl refl (h.frees k)
      where
        by_frees : (c d : Option FreeEnd) → slice_get n.free k ≡ c → slice_get m.free k ≡ d → SameFree c d → slice_get n.free k ≡ slice_get m.free k
        by_frees None None a e same = a ∙ sym e
        by_frees None (Some d) a e same = absurd same
        by_frees (Some c) None a e same = absurd same
        by_frees (Some c) (Some d) a e same =
            let to : partner_in m (Free k) ≡ Some c.end = partner_same t b n m single apart h (Free k) c.end (ap (option_map (λ (f : FreeEnd). f.end)) a) in
            let back : partner_in m (Free k) ≡ Some d.end = ap (option_map (λ (f : FreeEnd). f.end)) e in
            let end : c.end ≡ d.end = same_Some c.end d.end (sym to ∙ back) in
            a ∙ ap (λ (z : FreeEnd). Some z) (free_is c d same.0 same.1 end) ∙ sym e
          where
            free_is : (c d : FreeEnd) → c.name ≡ d.name → c.kind ≡ d.kind → c.end ≡ d.end → c ≡ d
            free_is c d e f g =
                ap (λ z. let r : FreeEnd = record { name = z; kind = c.kind; end = c.end } in r) e ∙ ap (λ z. let r : FreeEnd = record { name = d.name; kind = z; end = c.end } in r) f
                ∙ ap (λ z. let r : FreeEnd = record { name = d.name; kind = d.kind; end = z } in r) g

pub same_net : (t : Tables) (text : SourceNet) (n m : Parts) → AreSingle t (body_of text) → StandApart (map (λ w. w.place) (agents_of_body t (body_of text))) → IsNetOf t text n → IsNetOf t text m → n ≡ m
same_net t text n m single apart h k =
    equal_parts t (body_of text) n m single apart (record {
      one = h.agents;
      other = k.agents;
      wires = h.wires;
      other_wires = k.wires;
      whole = h.whole;
      other_whole = k.whole;
      frees = λ i. same_frees t text.free n.free m.free i h.free k.free;
    })

-- the boundary ends of two right members of one rule
same_ends : (es ds : List FreeEnd) (k : ℕ) → map (λ (f : FreeEnd). f.kind) es ≡ map (λ (f : FreeEnd). f.kind) ds → AllByRecursion (λ (f : FreeEnd). f.name ≡ []) es → AllByRecursion (λ (f : FreeEnd). f.name ≡ []) ds →
    SameFree (slice_get es k) (slice_get ds k)
same_ends [] [] k e a b = tt
same_ends [] (d ∷ ds) k e a b = cc
same_ends (c ∷ es) [] k e a b = cc
same_ends (c ∷ es) (d ∷ ds) zero e a b = let kind : c.kind ≡ d.kind = cc in (a.0 ∙ sym b.0, kind)
same_ends (c ∷ es) (d ∷ ds) (suc k) e a b = let rest : map (λ (f : FreeEnd). f.kind) es ≡ map (λ (f : FreeEnd). f.kind) ds = cc in same_ends es ds k rest a.1 b.1

pub same_member : (t : Tables) (r : SourceRule) (n m : Parts) → AreSingle t (body_of_rule t r) → StandApart (map (λ w. w.place) (agents_of_body t (body_of_rule t r))) → IsRightMemberOf t r n → IsRightMemberOf t r m → n ≡ m
same_member t r n m single apart h k =
    equal_parts t (body_of_rule t r) n m single apart (record {
      one = h.agents;
      other = k.agents;
      wires = h.wires;
      other_wires = k.wires;
      whole = h.whole;
      other_whole = k.whole;
      frees = λ i. same_ends n.free m.free i (h.types ∙ sym k.types) h.unnamed k.unnamed;
    })
