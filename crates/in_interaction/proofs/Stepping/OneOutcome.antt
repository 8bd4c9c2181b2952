-- The net after an interaction is determined, and so are the lists of active pairs and of those that it makes.
use Rattle.std.proofs.Common.{◌≡◌, inl, inr, ◌<◌, ℕ, zero, suc, Bool, Option, Some, None, List, [], ◌∷◌, map, length, slice_get, refl, sym, ap, subst, ◌∙◌, arith}
use Rattle.std.specs.Prelude.{option_map, option_and_then}
use Rattle.std.proofs.lemmas.Option.{same_Some}
use Rattle.in_syntax.specs.declared.places.Place.{Place}
use Rattle.in_symbols.specs.Tables.{Tables}
use Rattle.in_symbols.specs.declared.symbols.PortType.{PortType}
use Rattle.in_syntax.specs.declared.symbol_no.SymbolNo.{SymbolNo}
use Rattle.in_net.specs.ActivePairs.{ArePairsOf, lower_of}
use Rattle.in_interaction.specs.After.{cell_at}
use Rattle.in_interaction.specs.Interacting.{MayInteract, CanInteract, Interacts}
use Rattle.in_interaction.specs.Made.{IsMade, AreMadeOverEnds}
use Rattle.in_net.specs.Nets.{Point, net_of, point_of, coded_point}
use Rattle.in_net.specs.Parts.{Parts, IsWhole, IsWireBetween, cell_in, partner_in, wire_in}
use Rattle.in_net.specs.Rules.{RuleParts}
use Rattle.in_net.specs.TextNet.{ComesBefore}
use Rattle.in_net.specs.declared.nets.AgentNo.{AgentNo}
use Rattle.in_net.specs.declared.nets.Cell.{Cell}
use Rattle.in_net.specs.declared.nets.FreeEnd.{FreeEnd}
use Rattle.in_net.specs.declared.nets.Point as coded
use Rattle.in_net.specs.declared.nets.Point.TheVariants as code
use Rattle.in_net.specs.declared.nets.Wire.{Wire}
use Rattle.in_net.proofs.Public.{round_code, map_is, all_same, not_both}
use Rattle.in_interaction.proofs.Stepping.Making.{end_once}
use Rattle.in_interaction.proofs.Stepping.Partners.{net_wire}
use Rattle.in_interaction.proofs.Stepping.Wires.{both_ends}

-- ---- lists in one order with the same elements

module _ {X : Type 0} (Less : X → X → Type 0) (less_once : (x y : X) → Less x y → Less y x → ⊥) where
  abbrev pub Rises : List X → Type 0
  Rises xs = (j k : ℕ) (x y : X) → j < k → slice_get xs j ≡ Some x → slice_get xs k ≡ Some y → Less x y

  abbrev pub Holds : List X → List X → Type 0
  Holds xs ys = (k : ℕ) (x : X) → slice_get xs k ≡ Some x → (j : ℕ) × (slice_get ys j ≡ Some x)

  -- after one first element, the second list holds the elements of the first one
  tails_hold : (x y : X) (xs ys : List X) → Rises (x ∷ xs) → x ≡ y → Holds (x ∷ xs) (y ∷ ys) → Holds xs ys
  tails_hold x y xs ys a e h k z p = at (h (suc k) z p)
    where
      at : (j : ℕ) × (slice_get (y ∷ ys) j ≡ Some z) → (j : ℕ) × (slice_get ys j ≡ Some z)
      at (zero, q) =
          let same : y ≡ z = same_Some y z q in
          let l : Less x z = a 0 (suc k) x z (omega arith) refl p in
          let m : Less x x = subst (Less x) (sym same ∙ sym e) l in
          absurd (less_once x x m m)
      at (suc j, q) = (j, q)

  same_head : (x y : X) (xs ys : List X) → Rises (x ∷ xs) → Rises (y ∷ ys) → Holds (x ∷ xs) (y ∷ ys) → Holds (y ∷ ys) (x ∷ xs) → x ≡ y
  same_head x y xs ys a b h g = go (h 0 x refl) (g 0 y refl)
    where
      go : (j : ℕ) × (slice_get (y ∷ ys) j ≡ Some x) → (j : ℕ) × (slice_get (x ∷ xs) j ≡ Some y) → x ≡ y
      go (zero, p) q = sym (same_Some y x p)
      go (suc j, p) (zero, q) = same_Some x y q
      go (suc j, p) (suc k, q) = absurd (less_once x y (a 0 (suc k) x y (omega arith) refl q) (b 0 (suc j) y x (omega arith) refl p))

  tail_rises : (x : X) (xs : List X) → Rises (x ∷ xs) → Rises xs
  tail_rises x xs a j k u v lt p q = a (suc j) (suc k) u v (omega (arith, lt)) p q

  pub same_sorted : (xs ys : List X) → Rises xs → Rises ys → Holds xs ys → Holds ys xs → xs ≡ ys
  same_sorted [] [] a b h g = refl
  same_sorted [] (y ∷ ys) a b h g = let r = g 0 y refl in let e : ◌≡◌ {A = Option X} None (Some y) = r.1 in cc
  same_sorted (x ∷ xs) [] a b h g = let r = h 0 x refl in let e : ◌≡◌ {A = Option X} None (Some x) = r.1 in cc
  same_sorted (x ∷ xs) (y ∷ ys) a b h g =
      let e = same_head x y xs ys a b h g in
      ap (λ (z : X). z ∷ xs) e ∙ ap (λ (zs : List X). y ∷ zs) (same_sorted xs ys (tail_rises x xs a) (tail_rises y ys b) (tails_hold x y xs ys a e h) (tails_hold y x ys xs b (sym e) g))

-- ---- active pairs

pub one_list : (t : Tables) (n : Parts) (ps qs : List (AgentNo × AgentNo)) → ArePairsOf t n ps → ArePairsOf t n qs → ps ≡ qs
one_list t n ps qs h g =
    same_sorted (λ p q. lower_of p < lower_of q) (λ p q a b. omega (arith, a, b)) ps qs h.rising g.rising (λ k q e. g.all q (h.pairs k q e)) (λ k q e. h.all q (g.pairs k q e))

pub one_made_over_ends : (t : Tables) (n : Parts) (r : RuleParts) (a b : AgentNo) (name : ℕ → ℕ) (ps qs : List (AgentNo × AgentNo)) → AreMadeOverEnds t n r a b name ps → AreMadeOverEnds t n r a b name qs → ps ≡ qs
one_made_over_ends t n r a b name ps qs h g =
    same_sorted Lower lower_once ps qs (rises ps h) (rises qs g) (λ k q e. let m = h.each k q e in g.all m.0 q m.1) (λ k q e. let m = g.each k q e in h.all m.0 q m.1)
  where
    Lower : AgentNo × AgentNo → AgentNo × AgentNo → Type 0
    Lower p q = (d e : ℕ) × IsMade t n r a b name d p × IsMade t n r a b name e q × (d < e)

    lower_once : (p q : AgentNo × AgentNo) → Lower p q → Lower q p → ⊥
    lower_once p q x y =
        let one = end_once t n r a b name x.0 y.1 p x.2 y.3 in
        let two = end_once t n r a b name x.1 y.0 q x.3 y.2 in
        let l = x.4 in
        let m = y.4 in
        omega (arith, one, two, l, m)

    rises : (xs : List (AgentNo × AgentNo)) → AreMadeOverEnds t n r a b name xs → Rises Lower lower_once xs
    rises xs m j k p q lt e f =
        let x = m.each j p e in
        let y = m.each k q f in
        (x.0, y.0, x.1, y.1, m.rising j k x.0 y.0 p q lt e f x.1 y.1)

-- ---- parts of nets

pub same_option : {X : Type 0} (o p : Option X) → ((x : X) → o ≡ Some x → p ≡ Some x) → ((x : X) → p ≡ Some x → o ≡ Some x) → o ≡ p
same_option None None h g = refl
same_option None (Some x) h g = g x refl
same_option (Some x) p h g = sym (h x refl)

same_cells : (cs ds : List (Option Cell)) → length cs ≡ length ds → ((x : ℕ) → cell_at cs x ≡ cell_at ds x) → cs ≡ ds
same_cells [] [] e h = refl
same_cells [] (d ∷ ds) e h = absurd (omega (arith, e))
same_cells (c ∷ cs) [] e h = absurd (omega (arith, e))
same_cells (c ∷ cs) (d ∷ ds) e h = ap (λ (z : Option Cell). z ∷ cs) (h 0) ∙ ap (λ (zs : List (Option Cell)). d ∷ zs) (same_cells cs ds (omega (arith, e)) (λ x. h (suc x)))

same_frees : (fs gs : List FreeEnd) → map (λ (f : FreeEnd). f.kind) fs ≡ map (λ (f : FreeEnd). f.kind) gs → map (λ (f : FreeEnd). f.name) fs ≡ map (λ (f : FreeEnd). f.name) gs →
    ((k : ℕ) → option_map (λ (f : FreeEnd). f.end) (slice_get fs k) ≡ option_map (λ (f : FreeEnd). f.end) (slice_get gs k)) → fs ≡ gs
same_frees [] [] a b h = refl
same_frees [] (g ∷ gs) a b h = cc
same_frees (f ∷ fs) [] a b h = cc
same_frees (f ∷ fs) (g ∷ gs) a b h =
    let kind : f.kind ≡ g.kind = cc in
    let kinds : map (λ (f : FreeEnd). f.kind) fs ≡ map (λ (f : FreeEnd). f.kind) gs = cc in
    let name : f.name ≡ g.name = cc in
    let names : map (λ (f : FreeEnd). f.name) fs ≡ map (λ (f : FreeEnd). f.name) gs = cc in
    let end : f.end ≡ g.end = same_Some f.end g.end (h 0) in
    let one : f ≡ g = ap (λ (z : List ℕ). let e : FreeEnd = record { name = z; kind = f.kind; end = f.end } in e) name ∙ ap (λ (z : PortType). let e : FreeEnd = record { name = g.name; kind = z; end = f.end } in e) kind
    ∙ ap (λ (z : coded.Point). let e : FreeEnd = record { name = g.name; kind = g.kind; end = z } in e) end in
    ap (λ (z : FreeEnd). z ∷ fs) one ∙ ap (λ (zs : List FreeEnd). g ∷ zs) (same_frees fs gs kinds names (λ k. h (suc k)))

unfoldable pub symbol_of : Option Cell → Option ℕ
symbol_of o = option_map (λ (s : SymbolNo). s.0) (option_map (λ (c : Cell). c.symbol) o)

same_parts : (m k : Parts) → m.cells ≡ k.cells → m.free ≡ k.free → m.wires ≡ k.wires → m.places ≡ k.places → m.built ≡ k.built → m ≡ k
same_parts m k a b c d e =
    ap (λ (z : List (Option Cell)). let p : Parts = record { cells = z; free = m.free; wires = m.wires; places = m.places; built = m.built } in p) a
    ∙ ap (λ (z : List FreeEnd). let p : Parts = record { cells = k.cells; free = z; wires = m.wires; places = m.places; built = m.built } in p) b
    ∙ ap (λ (z : List Wire). let p : Parts = record { cells = k.cells; free = k.free; wires = z; places = m.places; built = m.built } in p) c
    ∙ ap (λ (z : List Place). let p : Parts = record { cells = k.cells; free = k.free; wires = k.wires; places = z; built = m.built } in p) d
    ∙ ap (λ (z : Bool). let p : Parts = record { cells = k.cells; free = k.free; wires = k.wires; places = k.places; built = z } in p) e

-- ---- wires

wire_there : (n : Parts) (j : ℕ) (p q : coded.Point) → wire_in n j ≡ Some (p, q) → (w : Wire) × (slice_get n.wires j ≡ Some w) × (w.one ≡ p) × (w.other ≡ q)
wire_there n j p q e = go (slice_get n.wires j) refl e
  where
    go : (o : Option Wire) → slice_get n.wires j ≡ o → option_map {U = coded.Point × coded.Point} (λ (w : Wire). (w.one, w.other)) o ≡ Some (p, q) → (w : Wire) × (slice_get n.wires j ≡ Some w) × (w.one ≡ p) × (w.other ≡ q)
    go None is e = cc
    go (Some w) is e = let s = both_ends w.one w.other p q e in (w, is, s.0, s.1)

is_wire : (n : Parts) (j : ℕ) (w : Wire) → slice_get n.wires j ≡ Some w → wire_in n j ≡ Some (w.one, w.other)
is_wire n j w e = ap (option_map {T = Wire} {U = coded.Point × coded.Point} (λ v. (v.one, v.other))) e

at_nowhere : (ws : List Wire) (j : ℕ) (w : Wire) → map (λ (w : Wire). w.place) ws ≡ map (λ (w : Wire). record { from = 0; to = 0; line = 0; col = 0 }) ws → slice_get ws j ≡ Some w → w.place ≡ record { from = 0; to = 0; line = 0; col = 0 }
at_nowhere [] j w h e = cc
at_nowhere (v ∷ vs) zero w h e = let same : v ≡ w = cc in ap (λ (w : Wire). w.place) (sym same) ∙ head v.place _ _ _ h
  where
    head : (a b : Place) (xs ys : List Place) → a ∷ xs ≡ b ∷ ys → a ≡ b
    head a b xs ys e = cc
at_nowhere (v ∷ vs) (suc j) w h e = at_nowhere vs j w (tail v.place _ _ _ h) e
  where
    tail : (a b : Place) (xs ys : List Place) → a ∷ xs ≡ b ∷ ys → xs ≡ ys
    tail a b xs ys e = cc

-- ---- the net after

module _ (n : Parts) (r : RuleParts) (a b : AgentNo) (m k : Parts) (t : Tables) (can : CanInteract t n r a b) (h : Interacts n r a b m) (g : Interacts n r a b k) where
  same_partner : (u v : Point ℕ) → (net_of m).partner u ≡ Some v → (net_of k).partner u ≡ Some v
  same_partner u v e = ((g.step t can).wires u v).1 (((h.step t can).wires u v).0 e)

  pub partner_there : (p q : coded.Point) → partner_in m p ≡ Some q → partner_in k p ≡ Some q
  partner_there p q e =
      ap (partner_in k) (sym (round_code p)) ∙ map_is (partner_in k (coded_point (point_of p))) (point_of q) (same_partner (point_of p) (point_of q) (net_wire m p q e)) ∙ ap (λ (z : coded.Point). Some z) (round_code q)

  wire_also : IsWhole m → IsWhole k → (j : ℕ) (w : Wire) → slice_get m.wires j ≡ Some w → (i : ℕ) × (slice_get k.wires i ≡ Some w)
  wire_also whole other j w e =
      let before = h.wires.turned j w.one w.other (is_wire m j w e) in
      let found = other.listed w.one w.other (partner_there w.one w.other (whole.partners j w.one w.other (is_wire m j w e))) in
      by_way found.0 before found.1
    where
      by_way : (i : ℕ) → ComesBefore w.one w.other → IsWireBetween k i w.one w.other → (i : ℕ) × (slice_get k.wires i ≡ Some w)
      by_way i before (inl f) =
          let v = wire_there k i w.one w.other f in
          let place : v.0.place ≡ w.place = at_nowhere k.wires i v.0 g.wires.nowhere v.1 ∙ sym (at_nowhere m.wires j w h.wires.nowhere e) in
          let same : v.0 ≡ w = ap (λ (z : coded.Point). let u : Wire = record { one = z; other = v.0.other; place = v.0.place } in u) v.2 ∙ ap (λ (z : coded.Point). let u : Wire = record { one = w.one; other = z; place = v.0.place } in u) v.3
          ∙ ap (λ (z : Place). let u : Wire = record { one = w.one; other = w.other; place = z } in u) place in
          (i, v.1 ∙ ap (λ (z : Wire). Some z) same)
      by_way i before (inr f) = absurd (not_both w.one w.other before (g.wires.turned i w.other w.one f))

-- for any list of wires
module _ (n : Parts) (r : RuleParts) (a b : AgentNo) (m k : Parts) (t : Tables) (can : CanInteract t n r a b) (h : Interacts n r a b m) (g : Interacts n r a b k) where
  partners : (p : coded.Point) → partner_in m p ≡ partner_in k p
  partners p = same_option (partner_in m p) (partner_in k p) (λ q e. partner_there n r a b m k t can h g p q e) (λ q e. partner_there n r a b k m t can g h p q e)

  symbols : (x : ℕ) → symbol_of (cell_in m x) ≡ symbol_of (cell_in k x)
  unfolding symbol_of
  symbols x = same_option _ _ (λ i e. ((g.step t can).agents x i).1 (((h.step t can).agents x i).0 e)) (λ i e. ((h.step t can).agents x i).1 (((g.step t can).agents x i).0 e))

  one_cell : (x : ℕ) (o p : Option Cell) → cell_in m x ≡ o → cell_in k x ≡ p → o ≡ p
  unfolding symbol_of
  one_cell x None None e f = refl
  one_cell x None (Some d) e f = let s : symbol_of None ≡ symbol_of (Some d) = ap symbol_of (sym e) ∙ symbols x ∙ ap symbol_of f in cc
  one_cell x (Some c) None e f = let s : symbol_of (Some c) ≡ symbol_of None = ap symbol_of (sym e) ∙ symbols x ∙ ap symbol_of f in cc
  one_cell x (Some c) (Some d) e f =
      let s : Some c.symbol.0 ≡ Some d.symbol.0 = ap symbol_of (sym e) ∙ symbols x ∙ ap symbol_of f in
      let symbol : c.symbol ≡ d.symbol = ap (λ (z : ℕ). let y : SymbolNo = record { 0 = z } in y) (same_Some c.symbol.0 d.symbol.0 s) in
      let ends : c.ends ≡ d.ends = all_same c.ends d.ends (λ i. ap (option_and_then (λ (c : Cell). slice_get c.ends i)) (sym e) ∙ partners (code.Port (record { 0 = x }) i) ∙ ap (option_and_then (λ (c : Cell). slice_get c.ends i)) f) in
      ap (λ (z : SymbolNo). let y : Cell = record { symbol = z; ends = c.ends } in Some y) symbol ∙ ap (λ (z : List coded.Point). let y : Cell = record { symbol = d.symbol; ends = z } in Some y) ends

  pub one_cells : m.cells ≡ k.cells
  one_cells = same_cells m.cells k.cells (h.numbers ∙ sym g.numbers) (λ x. one_cell x (cell_in m x) (cell_in k x) refl refl)

  pub one_free : m.free ≡ k.free
  one_free = same_frees m.free k.free ((h.step t can).free ∙ sym (g.step t can).free) (h.names ∙ sym g.names) (λ j. partners (code.Free j))

pub one_outcome : (n : Parts) (r : RuleParts) (a b : AgentNo) (m k : Parts) → MayInteract n r a b → IsWhole m → IsWhole k → Interacts n r a b m → Interacts n r a b k → m ≡ k
one_outcome n r a b m k may whole other h g = same_parts m k (one_cells n r a b m k may.0.0 can h g) (one_free n r a b m k may.0.0 can h g) wires (h.places ∙ sym g.places) (h.built ∙ sym g.built)
  where
    can : CanInteract may.0.0 n r a b
    can = may.0.1

    wires : m.wires ≡ k.wires
    wires =
        same_sorted (λ (v w : Wire). ComesBefore v.one w.one) (λ v w c d. not_both v.one w.one c d) m.wires k.wires
        (λ i j v w lt e f. h.wires.rising i j v.one v.other w.one w.other lt (is_wire m i v e) (is_wire m j w f)) (λ i j v w lt e f. g.wires.rising i j v.one v.other w.one w.other lt (is_wire k i v e) (is_wire k j w f))
        (wire_also n r a b m k may.0.0 can h g whole other) (wire_also n r a b k m may.0.0 can g h other whole)
