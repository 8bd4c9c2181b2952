-- A net in cells under other numbers of its agents: for any numbers that keep them apart there is one.
use Rattle.std.proofs.Common.{◌≡◌, ◌≤◌, ◌<◌, ◌+◌, ℕ, zero, suc, Option, Some, None, IsSome, List, [], ◌∷◌, map, slice_get, option_map, option_and_then, refl, sym, ap, subst, ◌∙◌, arith}
use native.Mathlib.Decide.{ℕ_discrete}
use Rattle.std.proofs.lemmas.Option.{same_Some}
use Rattle.in_symbols.specs.declared.symbols.PortType.{PortType}
use Rattle.in_syntax.specs.declared.symbol_no.SymbolNo.{SymbolNo}
use Rattle.in_net.specs.declared.nets.Cell.{Cell}
use Rattle.in_net.specs.declared.nets.FreeEnd.{FreeEnd}
use Rattle.in_net.specs.declared.nets.Point as points
use Rattle.in_net.specs.declared.nets.Point.TheVariants as code
use Rattle.in_net.specs.Nets.{Point, Port, Free, net_of, point_of}
use Rattle.in_net.specs.Parts.{Parts, cell_in}
use Rattle.in_interaction.specs.Listing.{unlisted}
use Rattle.in_interaction.specs.Queues.{both}
use Rattle.in_net.specs.Renaming.{renamed, IsRenamed}
use Rattle.in_base.proofs.Places.{of_mapped, to_mapped, is_some as there}
use Rattle.in_interaction.proofs.Public.{cell_of_symbol, has_value}
use Rattle.in_gluing.proofs.Public.{pick}
use Rattle.in_reducer.specs.Machines.{MachineParts, parts_of}
use Rattle.in_reducer.specs.Same.{IsSameMachine}

-- ---- the list of a function's values

table : {X : Type 0} → (ℕ → X) → ℕ → List X
table g zero = []
table g (suc n) = g 0 ∷ table (λ k. g (suc k)) n

in_table : (g : ℕ → Option Cell) (n y : ℕ) → (n ≤ y → g y ≡ None) → option_and_then (λ (c : Option Cell). c) (slice_get (table g n) y) ≡ g y
unfolding table
in_table g zero y h = sym (h (omega arith))
in_table g (suc n) zero h = refl
in_table g (suc n) (suc y) h = in_table (λ k. g (suc k)) n y (λ l. h (omega (arith, l)))

-- ---- cells under other numbers

pub symbol_of_cell : (n : Parts) (x : ℕ) (c : Cell) → cell_in n x ≡ Some c → (net_of n).symbol x ≡ Some c.symbol.0
symbol_of_cell n x c e = ap (λ (o : Option Cell). option_map (λ (s : SymbolNo). s.0) (option_map (λ (c : Cell). c.symbol) o)) e

module _ (f : ℕ → ℕ) where
  abbrev pub point_under : points.Point → points.Point
  point_under (code.Port x i) = code.Port (record { 0 = f x.0 }) i
  point_under (code.Free k) = code.Free k

  abbrev pub cell_under : Cell → Cell
  cell_under c = record { symbol = c.symbol; ends = map point_under c.ends }

  abbrev pub free_under : FreeEnd → FreeEnd
  free_under e = record { name = e.name; kind = e.kind; end = point_under e.end }

  point_same : (p : points.Point) → point_of (point_under p) ≡ renamed f (point_of p)
  point_same (code.Port x i) = refl
  point_same (code.Free k) = refl

  -- the first agent among these, numbered from k on, that gets this number
  at_number : List (Option Cell) → ℕ → ℕ → Option Cell
  at_number [] k y = None
  at_number (None ∷ cs) k y = at_number cs (suc k) y
  at_number (Some c ∷ cs) k y = pick (ℕ_discrete (f k) y) (Some (cell_under c)) (at_number cs (suc k) y)

  record IsAt (cs : List (Option Cell)) (k y : ℕ) (d : Cell) : Type 0 where
    place : ℕ
    cell : Cell
    stands : slice_get cs place ≡ Some (Some cell)
    number : f (k + place) ≡ y
    under : cell_under cell ≡ d

  later : (c : Option Cell) (cs : List (Option Cell)) (k y : ℕ) (d : Cell) → IsAt cs (suc k) y d → IsAt (c ∷ cs) k y d
  later c cs k y d h = record { place = suc h.place; cell = h.cell; stands = h.stands; number = ap f (let z : k + suc h.place ≡ suc k + h.place = omega arith in z) ∙ h.number; under = h.under }

  of_number : (cs : List (Option Cell)) (k y : ℕ) (d : Cell) → at_number cs k y ≡ Some d → IsAt cs k y d
  unfolding at_number
  of_number [] k y d h = absurd (let z : ◌≡◌ {A = Option Cell} None (Some d) = h in cc)
  of_number (None ∷ cs) k y d h = later None cs k y d (of_number cs (suc k) y d h)
  of_number (Some c ∷ cs) k y d h = go (λ z. of_number cs (suc k) y d z) (ℕ_discrete (f k) y) h
    where
      go : (at_number cs (suc k) y ≡ Some d → IsAt cs (suc k) y d) → (dec : Dec (f k ≡ y)) → pick dec (Some (cell_under c)) (at_number cs (suc k) y) ≡ Some d → IsAt (Some c ∷ cs) k y d
      go rest (yes e) h = record { place = 0; cell = c; stands = refl; number = ap f (let z : k + 0 ≡ k = omega arith in z) ∙ e; under = same_Some (cell_under c) d h }
      go rest (no n) h = later (Some c) cs k y d (rest h)

  to_number : (cs : List (Option Cell)) (k j : ℕ) (c : Cell) → slice_get cs j ≡ Some (Some c) → IsSome (at_number cs k (f (k + j)))
  unfolding at_number
  to_number [] k j c e = absurd (let z : ◌≡◌ {A = Option (Option Cell)} None (Some (Some c)) = e in cc)
  to_number (None ∷ cs) k zero c e = absurd (let z : ◌≡◌ {A = Option Cell} None (Some c) = same_Some None (Some c) e in cc)
  to_number (None ∷ cs) k (suc j) c e = subst (λ (z : ℕ). IsSome (at_number cs (suc k) (f z))) (let z : suc k + j ≡ k + suc j = omega arith in z) (to_number cs (suc k) j c e)
  to_number (Some d ∷ cs) k zero c e = go (ℕ_discrete (f k) (f (k + 0)))
    where
      go : (dec : Dec (f k ≡ f (k + 0))) → IsSome (pick dec (Some (cell_under d)) (at_number cs (suc k) (f (k + 0))))
      go (yes e) = refl
      go (no n) = absurd (n (ap f (let z : k ≡ k + 0 = omega arith in z)))
  to_number (Some d ∷ cs) k (suc j) c e = go (subst (λ (z : ℕ). IsSome (at_number cs (suc k) (f z))) (let z : suc k + j ≡ k + suc j = omega arith in z) (to_number cs (suc k) j c e)) (ℕ_discrete (f k) (f (k + suc j)))
    where
      go : IsSome (at_number cs (suc k) (f (k + suc j))) → (dec : Dec (f k ≡ f (k + suc j))) → IsSome (pick dec (Some (cell_under d)) (at_number cs (suc k) (f (k + suc j))))
      go rest (yes e) = refl
      go rest (no n) = rest

  -- more than any of their numbers
  bound : List (Option Cell) → ℕ → ℕ
  bound [] k = 0
  bound (c ∷ cs) k = suc (f k) + bound cs (suc k)

  below : (cs : List (Option Cell)) (k j : ℕ) (c : Option Cell) → slice_get cs j ≡ Some c → f (k + j) < bound cs k
  unfolding bound
  below [] k j c e = absurd (let z : ◌≡◌ {A = Option (Option Cell)} None (Some c) = e in cc)
  below (d ∷ cs) k zero c e = let z : f (k + 0) ≡ f k = ap f (let z : k + 0 ≡ k = omega arith in z) in omega (arith, z)
  below (d ∷ cs) k (suc j) c e =
      let l = below cs (suc k) j c e in
      let z : f (k + suc j) ≡ f (suc k + j) = ap f (let z : k + suc j ≡ suc k + j = omega arith in z) in
      omega (arith, l, z)

  beyond : (cs : List (Option Cell)) (y : ℕ) → bound cs 0 ≤ y → at_number cs 0 y ≡ None
  beyond cs y l = go (at_number cs 0 y) refl
    where
      go : (o : Option Cell) → at_number cs 0 y ≡ o → at_number cs 0 y ≡ None
      go None e = e
      go (Some d) e =
          let h = of_number cs 0 y d e in
          let b = below cs 0 h.place (Some h.cell) h.stands in
          let n = h.number in
          absurd (omega (arith, b, n, l))

  pub cells_under : List (Option Cell) → List (Option Cell)
  cells_under cs = table (at_number cs 0) (bound cs 0)

  -- ---- a net

  module _ (cs : List (Option Cell)) (free : List FreeEnd) where
    abbrev old : Parts
    old = unlisted cs free

    abbrev new : Parts
    new = unlisted (cells_under cs) (map free_under free)

    cell_is : (y : ℕ) → cell_in new y ≡ at_number cs 0 y
    unfolding cells_under
    cell_is y = in_table (at_number cs 0) (bound cs 0) y (beyond cs y)

    cell_listed : (x : ℕ) (c : Cell) → cell_in old x ≡ Some c → slice_get cs x ≡ Some (Some c)
    cell_listed x c e = go (slice_get cs x) refl e
      where
        go : (o : Option (Option Cell)) → slice_get cs x ≡ o → option_and_then (λ (c : Option Cell). c) o ≡ Some c → slice_get cs x ≡ Some (Some c)
        go None is h = absurd (let z : ◌≡◌ {A = Option Cell} None (Some c) = h in cc)
        go (Some o) is h = is ∙ ap (λ (z : Option Cell). Some z) h

    back : (y : ℕ) (d : Cell) → cell_in new y ≡ Some d → (x : ℕ) × (c : Cell) × (cell_in old x ≡ Some c) × (f x ≡ y) × (cell_under c ≡ d)
    back y d e =
        let h = of_number cs 0 y d (sym (cell_is y) ∙ e) in
        (h.place, h.cell, ap (option_and_then (λ (c : Option Cell). c)) h.stands, ap f (let z : h.place ≡ 0 + h.place = omega arith in z) ∙ h.number, h.under)

    module _ (apart : (x y : ℕ) → IsSome ((net_of old).symbol x) → IsSome ((net_of old).symbol y) → f x ≡ f y → x ≡ y) where
      forth : (x : ℕ) (c : Cell) → cell_in old x ≡ Some c → cell_in new (f x) ≡ Some (cell_under c)
      forth x c e =
          let here : IsSome (at_number cs 0 (f x)) = subst (λ (z : ℕ). IsSome (at_number cs 0 (f z))) (let z : 0 + x ≡ x = omega arith in z) (to_number cs 0 x c (cell_listed x c e)) in
          let d = has_value (at_number cs 0 (f x)) here in
          let h = of_number cs 0 (f x) d.0 d.1 in
          let at : cell_in old h.place ≡ Some h.cell = ap (option_and_then (λ (c : Option Cell). c)) h.stands in
          let same : h.place ≡ x =
          apart h.place x (there ((net_of old).symbol h.place) h.cell.symbol.0 (symbol_of_cell old h.place h.cell at)) (there ((net_of old).symbol x) c.symbol.0 (symbol_of_cell old x c e)) (ap f (let z : h.place ≡ 0 + h.place = omega arith in z) ∙ h.number) in
          let cell : h.cell ≡ c = same_Some h.cell c (sym at ∙ ap (cell_in old) same ∙ e) in
          cell_is (f x) ∙ d.1 ∙ ap (λ (z : Cell). Some z) (sym h.under ∙ ap cell_under cell)

      -- ---- its wires

      abbrev ends_at : Option Cell → ℕ → Option (Point ℕ)
      ends_at o i = option_map point_of (option_and_then (λ (c : Cell). slice_get c.ends i) o)

      abbrev end_at : List FreeEnd → ℕ → Option (Point ℕ)
      end_at fs k = option_map point_of (option_map (λ (f : FreeEnd). f.end) (slice_get fs k))

      of_ends : (o : Option Cell) (i : ℕ) (v : Point ℕ) → ends_at o i ≡ Some v → (c : Cell) × (q : points.Point) × (o ≡ Some c) × (slice_get c.ends i ≡ Some q) × (point_of q ≡ v)
      of_ends None i v h = absurd (let z : ◌≡◌ {A = Option (Point ℕ)} None (Some v) = h in cc)
      of_ends (Some c) i v h = go (slice_get c.ends i) refl h
        where
          go : (o : Option points.Point) → slice_get c.ends i ≡ o → option_map point_of o ≡ Some v → (d : Cell) × (q : points.Point) × (◌≡◌ {A = Option Cell} (Some c) (Some d)) × (slice_get d.ends i ≡ Some q) × (point_of q ≡ v)
          go None is h = absurd (let z : ◌≡◌ {A = Option (Point ℕ)} None (Some v) = h in cc)
          go (Some q) is h = (c, q, refl, is, same_Some (point_of q) v h)

      of_end : (fs : List FreeEnd) (k : ℕ) (v : Point ℕ) → end_at fs k ≡ Some v → (e : FreeEnd) × (slice_get fs k ≡ Some e) × (point_of e.end ≡ v)
      of_end fs k v h = go (slice_get fs k) refl h
        where
          go : (o : Option FreeEnd) → slice_get fs k ≡ o → option_map point_of (option_map (λ (f : FreeEnd). f.end) o) ≡ Some v → (e : FreeEnd) × (slice_get fs k ≡ Some e) × (point_of e.end ≡ v)
          go None is h = absurd (let z : ◌≡◌ {A = Option (Point ℕ)} None (Some v) = h in cc)
          go (Some e) is h = (e, is, same_Some (point_of e.end) v h)

      wire_forth : (p q : Point ℕ) → (net_of old).partner p ≡ Some q → (net_of new).partner (renamed f p) ≡ Some (renamed f q)
      wire_forth (Port x i) q e =
          let h = of_ends (cell_in old x) i q e in
          let at = forth x h.0 h.2 in
          ap (λ (o : Option Cell). ends_at o i) at ∙ ap (option_map point_of) (to_mapped point_under h.0.ends i h.1 h.3) ∙ ap (λ (z : Point ℕ). Some z) (point_same h.1 ∙ ap (renamed f) h.4)
      wire_forth (Free k) q e =
          let h = of_end free k q e in
          ap (λ (o : Option FreeEnd). option_map point_of (option_map (λ (f : FreeEnd). f.end) o)) (to_mapped free_under free k h.0 h.1) ∙ ap (λ (z : Point ℕ). Some z) (point_same h.0.end ∙ ap (renamed f) h.2)

      abbrev IsFrom : Point ℕ → Point ℕ → Type 0
      IsFrom u v = (p q : Point ℕ) × (renamed f p ≡ u) × (renamed f q ≡ v) × ((net_of old).partner p ≡ Some q)

      wire_back : (u v : Point ℕ) → (net_of new).partner u ≡ Some v → IsFrom u v
      wire_back (Port y i) v e =
          let h = of_ends (cell_in new y) i v e in
          let x = back y h.0 h.2 in
          let z = of_mapped point_under x.1.ends i h.1 (ap (λ (c : Cell). slice_get c.ends i) x.4 ∙ h.3) in (
            Port x.0 i,
            point_of z.0,
            ap (λ (z : ℕ). Port z i) x.3,
            sym (point_same z.0) ∙ ap point_of z.2 ∙ h.4,
            ap (λ (o : Option Cell). ends_at o i) x.2 ∙ ap (option_map point_of) z.1,
          )
      wire_back (Free k) v e =
          let h = of_end (map free_under free) k v e in
          let z = of_mapped free_under free k h.0 h.1 in (
            Free k,
            point_of z.0.end,
            refl,
            sym (point_same z.0.end) ∙ ap (λ (e : FreeEnd). point_of e.end) z.2 ∙ h.2,
            ap (λ (o : Option FreeEnd). option_map point_of (option_map (λ (f : FreeEnd). f.end) o)) z.1,
          )

      kinds_same : (fs : List FreeEnd) → map (λ (f : FreeEnd). f.kind) (map free_under fs) ≡ map (λ (f : FreeEnd). f.kind) fs
      kinds_same [] = refl
      kinds_same (e ∷ fs) = ap (λ (z : List PortType). e.kind ∷ z) (kinds_same fs)

      net_under : IsRenamed f (net_of old) (net_of new)
      net_under = record {
        apart = apart;
        agents = λ y s. (
          (λ e. (
              let d = cell_of_symbol new y s e in
              let x = back y d.0 d.1 in
              (x.0, x.3, symbol_of_cell old x.0 x.1 x.2 ∙ ap (λ (c : Cell). Some c.symbol.0) x.4 ∙ ap (λ (z : ℕ). Some z) d.2)
              )),
          (λ x. (
              let c = cell_of_symbol old x.0 s x.2 in
              ap (net_of new).symbol (sym x.1) ∙ symbol_of_cell new (f x.0) (cell_under c.0) (forth x.0 c.0 c.1) ∙ ap (λ (z : ℕ). Some z) c.2
              )),
        );
        wires = λ u v. (
          (λ e. wire_back u v e),
          (λ z. ap (net_of new).partner (sym z.2) ∙ wire_forth z.0 z.1 z.4 ∙ ap (λ (z : Point ℕ). Some z) z.3),
        );
        free = kinds_same free;
      }

      names_same : (fs : List FreeEnd) → map (λ (f : FreeEnd). f.name) (map free_under fs) ≡ map (λ (f : FreeEnd). f.name) fs
      names_same [] = refl
      names_same (e ∷ fs) = ap (λ (z : List (List ℕ)). e.name ∷ z) (names_same fs)

  -- ---- a machine

  abbrev pub machine_under : MachineParts → MachineParts
  machine_under m = record { program = m.program; agents = cells_under m.agents; free = map free_under m.free; queue = map (both f) m.queue; vacant = m.vacant }

  pub is_under : (m : MachineParts) → ((x y : ℕ) → IsSome ((net_of (parts_of m)).symbol x) → IsSome ((net_of (parts_of m)).symbol y) → f x ≡ f y → x ≡ y) → IsSameMachine f m (machine_under m)
  is_under m apart = record {
    program = refl;
    net = net_under m.agents m.free apart;
    names = names_same m.agents m.free apart m.free;
    queue = refl;
    vacant = refl;
  }
