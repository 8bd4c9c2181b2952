-- The rest and the part are side by side in the net that was split.
use Rattle.std.proofs.Common.{◌≡◌, ◌⊎◌, inl, inr, ◌<◌, ◌≤◌, ◌+◌, ℕ, zero, suc, Option, Some, None, List, [], ◌∷◌, length, map, take, replicate, slice_get, refl, sym, ap, subst, ◌∙◌, length-append, arith}
use Rattle.std.specs.Prelude.{option_map}
use Rattle.std.proofs.Math.Seq.{take-append_seam}
use Rattle.std.proofs.lemmas.Bool.{cases_lt}
use Rattle.std.proofs.lemmas.List.{length-map}
use Rattle.std.proofs.lemmas.Option.{same_Some, slice_get-map, slice_get_past}
use native.Mathlib.Decide.{ℕ_discrete}
use Rattle.in_base.proofs.Each.{at_index}
use Rattle.in_arena.specs.Arenas.{ArenaView}
use Rattle.in_arena.specs.Classes.{all_of, each}
use Rattle.in_arena.specs.States.{Vacant}
use Rattle.in_arena.specs.declared.content.CellNo.{CellNo}
use Rattle.in_arena.specs.declared.content.End.{End}
use Rattle.in_arena.specs.declared.content.End.TheVariants as end
use Rattle.in_net.specs.declared.nets.FreeEnd.{FreeEnd}
use Rattle.in_net.specs.Nets.{Free, Net, IsNet, net_of, signature_of}
use Rattle.in_check.specs.Programs.{Program}
use Rattle.in_check.specs.Systems.{IsSound, system_of}
use Rattle.in_gluing.specs.AsGluing.{two_parts}
use Rattle.in_cells.specs.Shown.{IsShown, point_of}
use Rattle.in_cells.specs.Copying.{HaveOwnNames, IsCopied, moved_end, name_in, number_in}
use Rattle.in_cells.specs.Laws.{AreEndsSplit, LeadsIntoPart, ShowsAll}
use Rattle.in_cells.proofs.Public.{part_stands_beside, split_are_nets}
use Rattle.in_gluing.specs.SideBySide.{StandBeside}
use Rattle.in_order.proofs.Public.{beside_parts_are_sound}
use Rattle.in_reducer.specs.declared.body.Body.{Body}
use Rattle.in_reducer.specs.declared.body.OwnEnd.{OwnEnd}
use Rattle.in_reducer.specs.Cutting.{net_in}
use Rattle.in_reducer.specs.Inside.{KeepsNet, declared_as, most_ends, own_free, reducer_view}
use Rattle.in_reducer.specs.Machines.{MachineParts}
use Rattle.in_reducer.specs.Parting.{CanSplit, IsInPart, ends_of_two, names_of, names_of_two, place_of_two}
use Rattle.in_reducer.specs.Splitting.{AreNumbersOfTwo, ArePicked, ArePickedWithRoom, LosesPart}
use Rattle.in_reducer.specs.Standing.{agents_in, at_rest, leading_to, vacant_in}
use Rattle.in_reducer.proofs.Cells.Shown.{is_shown, partner_seen, same_kinds, same_many, same_names, seen}
use Rattle.in_reducer.proofs.Parts.SplitBefore as before
use Rattle.in_reducer.proofs.Starts.StartNet.{no_word}
use Rattle.in_reducer.proofs.Parts.TwoEnds.{first_of_two, many_of_two, of_first, of_own, of_second, part_of_two, places_of_two, rest_of_two, which_of_two}
use Rattle.in_net.proofs.Public.{all_same}

-- ---- lists

map_same : {X : Type 0} (o : Option X) → option_map (λ z. z) o ≡ o
map_same None = refl
map_same (Some x) = refl

map_after : {X Y : Type 0} (g : X → Y) (o : Option X) → option_map g (option_map (λ z. z) o) ≡ option_map (λ z. z) (option_map g o)
map_after g None = refl
map_after g (Some x) = refl

-- the images of picked elements are picked from the images of all
picked_by : {X Y : Type 0} (g : X → Y) (place : ℕ → ℕ) (n : ℕ) (all picked : List X) → ArePicked (λ z. z) place n all picked → ArePicked (λ z. z) place n (map g all) (map g picked)
picked_by g place n all picked h = record {
  count = length-map picked g ∙ h.count;
  each = λ e l. slice_get-map g picked e ∙ ap (option_map g) (h.each e l) ∙ map_after g (slice_get all (place e)) ∙ ap (option_map (λ z. z)) (sym (slice_get-map g all (place e)));
}

picked_at : {X : Type 0} (place : ℕ → ℕ) (n : ℕ) (all picked : List X) → ArePicked (λ z. z) place n all picked → (e : ℕ) → e < n → slice_get picked e ≡ slice_get all (place e)
picked_at place n all picked h e l = h.each e l ∙ map_same (slice_get all (place e))

-- a free end is one of the `own + cuts` of the rest, or one of the `cuts` of the part
pub few_of_two : (own cuts k i e : ℕ) → slice_get (ends_of_two own cuts) k ≡ Some (i, e) → (i < 2) × (i ≡ 0 → e < own + cuts) × (i ≡ 1 → e < cuts)
few_of_two own cuts k i e at = elim (which_of_two own cuts k i e at) [
  | of_own l p q ↦ ((let z : i < 2 = omega (arith, p) in z), (λ f. (let z : e < own + cuts = omega (arith, l, q) in z)), (λ f. absurd (omega (arith, p, f))))
  | of_first j l is p q ↦ ((let z : i < 2 = omega (arith, p) in z), (λ f. absurd (omega (arith, p, f))), (λ f. (let z : e < cuts = omega (arith, l, q) in z)))
  | of_second j l is p q ↦ ((let z : i < 2 = omega (arith, p) in z), (λ f. (let z : e < own + cuts = omega (arith, l, q) in z)), (λ f. absurd (omega (arith, p, f))))
]

-- a list is made up of two, in the order of the free ends of two parts
made_of_two : {X : Type 0} (own cuts : ℕ) (all : List X) (of : ℕ × ℕ → Option X) → length all ≡ own + (cuts + cuts) → ((e : ℕ) → e < own + cuts → of (0, e) ≡ slice_get all (place_of_two own 0 e)) →
    ((e : ℕ) → e < cuts → of (1, e) ≡ slice_get all (place_of_two own 1 e)) → map (λ t. Some t) all ≡ map of (ends_of_two own cuts)
made_of_two {X} own cuts all of many rest part = all_same (map (λ t. Some t) all) (map of (ends_of_two own cuts)) at
  where
    long : length (ends_of_two own cuts) ≡ own + (cuts + cuts)
    long = many_of_two own cuts

    whose : (k i e : ℕ) → slice_get (ends_of_two own cuts) k ≡ Some (i, e) → of (i, e) ≡ slice_get all k
    whose k zero e s = rest e ((few_of_two own cuts k 0 e s).1 refl) ∙ ap (slice_get all) (places_of_two own cuts k 0 e s)
    whose k (suc zero) e s = part e ((few_of_two own cuts k 1 e s).2 refl) ∙ ap (slice_get all) (places_of_two own cuts k 1 e s)
    whose k (suc (suc i)) e s = absurd (let l = (few_of_two own cuts k (suc (suc i)) e s).0 in omega (arith, l))

    at : (k : ℕ) → slice_get (map (λ t. Some t) all) k ≡ slice_get (map of (ends_of_two own cuts)) k
    at k = slice_get-map (λ (t : X). Some t) all k ∙ go (cases_lt k (own + (cuts + cuts))) ∙ sym (slice_get-map of (ends_of_two own cuts) k)
      where
        go : (k < own + (cuts + cuts)) ⊎ (own + (cuts + cuts) ≤ k) → option_map (λ (t : X). Some t) (slice_get all k) ≡ option_map of (slice_get (ends_of_two own cuts) k)
        go (inl l) =
            let q = at_index (ends_of_two own cuts) k (let e = long in omega (arith, l, e)) in
            let y = at_index all k (omega (arith, l, many)) in
            ap (option_map (λ (t : X). Some t)) y.1 ∙ ap (λ (o : Option X). Some o) (sym (whose k q.0.0 q.0.1 q.1 ∙ y.1)) ∙ ap (option_map of) (sym q.1)
        go (inr l) = ap (option_map (λ (t : X). Some t)) (slice_get_past all k (omega (arith, l, many))) ∙ ap (option_map of) (sym (slice_get_past (ends_of_two own cuts) k (let e = long in omega (arith, l, e))))

-- ---- the list of the partners of free ends

module _ (a : ArenaView) (prog : Program) (free : List OwnEnd) (f : End → End) (place : ℕ → ℕ) (n : ℕ) (all list : List End) (p : ArePickedWithRoom f place n all list) (many : length free ≡ n) where
  abbrev gs : List FreeEnd
  gs = map (declared_as prog) free

  many_gs : length gs ≡ n
  many_gs = length-map free (declared_as prog) ∙ many

  pub listed : length gs ≤ length list
  listed = let e = ap length p.list_is ∙ length-append p.picked p.room in let f = many_gs in let g = p.are.count in omega (arith, e, f, g)

  pub shows_list : ShowsAll a p.picked (net_of (seen a gs list))
  shows_list = record {
    shown = subst (λ (es : List End). IsShown a es (net_of (seen a gs list)))
        (ap (λ (z : ℕ). take z list) (many_gs ∙ sym p.are.count) ∙ ap (take (length p.picked)) p.list_is ∙ take-append_seam p.picked p.room) (is_shown a gs list);
    many = p.are.count ∙ sym many_gs ∙ sym (length-map (leading_to gs list) (λ (g : FreeEnd). g.kind) ∙ same_many gs list listed);
  }

  pub many_led : length (leading_to gs list) ≡ n
  many_led = same_many gs list listed ∙ many_gs

  -- there is room after them
  pub room_after : length free + most_ends + most_ends ≤ length list
  room_after = let e = ap length p.list_is ∙ length-append p.picked p.room in let g = p.are.count in let s = p.sides in omega (arith, e, g, s, many)

-- ---- the old number of an agent, by its new one

chosen : {P : Type 0} → Dec P → ℕ → ℕ → ℕ
chosen (yes e) x y = x
chosen (no ne) x y = y

pub origin_in : List CellNo → List CellNo → ℕ → ℕ
origin_in [] names z = 0
origin_in (a ∷ more) names z = chosen (ℕ_discrete (name_in names a.0) z) a.0 (origin_in more names z)

pub origin_is : (agents names : List CellNo) → HaveOwnNames agents names → (k : ℕ) (c : CellNo) → slice_get agents k ≡ Some c → origin_in agents names (name_in names c.0) ≡ c.0
unfolding origin_in chosen
origin_is [] names once k c e = absurd (let f : None ≡ Some c = e in cc)
origin_is (a ∷ more) names once zero c e = go (ℕ_discrete (name_in names a.0) (name_in names c.0))
  where
    same : a ≡ c
    same = same_Some a c e

    go : (d : Dec (name_in names a.0 ≡ name_in names c.0)) → chosen d a.0 (origin_in more names (name_in names c.0)) ≡ c.0
    go (yes f) = ap (λ (z : CellNo). z.0) same
    go (no ne) = absurd (ne (ap (λ (z : CellNo). name_in names z.0) same))
origin_is (a ∷ more) names once (suc k) c e = go (ℕ_discrete (name_in names a.0) (name_in names c.0)) (origin_is more names (λ i j d f s r g. (let z = once (suc i) (suc j) d f s r g in omega (arith, z))) k c e)
  where
    go : (d : Dec (name_in names a.0 ≡ name_in names c.0)) → origin_in more names (name_in names c.0) ≡ c.0 → chosen d a.0 (origin_in more names (name_in names c.0)) ≡ c.0
    go (yes f) rest = absurd (let z = once 0 (suc k) a c refl e f in omega (arith, z))
    go (no ne) rest = rest

-- ---- both parts

-- the results of splitting a part off: the new numbers, the arenas, and the lists of both
pub record Pieces : Type 0 where
  pub size : ℕ
  pub numbers : List ℕ
  pub rest_numbers : List ℕ
  pub names : List CellNo
  pub first : ArenaView
  pub new : ArenaView
  pub left : ArenaView
  pub part_free : List OwnEnd
  pub rest_free : List OwnEnd
  pub part_ends : List End
  pub rest_ends : List End

pub record ArePieces (r : Body) (agents : List CellNo) (own cuts : ℕ) (x : Pieces) : Type 0 where
  pub same : x.first.cells ≡ each x.size
  pub empty : x.first.states ≡ replicate (all_of (each x.size)) Vacant
  pub copied : IsCopied r.arena agents x.numbers x.names x.first x.new
  pub lost : LosesPart agents (number_in x.rest_numbers) r.arena x.left
  pub rest_numbered : AreNumbersOfTwo own cuts 0 (own + cuts) x.rest_numbers
  pub part_numbered : AreNumbersOfTwo own cuts 1 cuts x.numbers
  pub rest_free : ArePicked (λ z. z) (place_of_two own 0) (own + cuts) r.free.items x.rest_free
  pub part_free : ArePicked (λ z. z) (place_of_two own 1) cuts r.free.items x.part_free
  pub rest_ends : ArePickedWithRoom (moved_end (λ z. z) (number_in x.rest_numbers)) (place_of_two own 0) (own + cuts) (take (own + (cuts + cuts)) r.ends.items) x.rest_ends
  pub part_ends : ArePickedWithRoom (moved_end (name_in x.names) (number_in x.numbers)) (place_of_two own 1) cuts (take (own + (cuts + cuts)) r.ends.items) x.part_ends

module _ (r : Body) (k : KeepsNet r) (agents : List CellNo) (own cuts : ℕ) (can : CanSplit (reducer_view r) agents own cuts) (x : Pieces) (h : ArePieces r agents own cuts x) where
  abbrev prog : Program
  prog = r.checked.now.program

  abbrev fs : List FreeEnd
  fs = own_free r

  abbrev es : List End
  es = r.ends.items

  abbrev ends : List (ℕ × ℕ)
  ends = ends_of_two own cuts

  abbrev rest_fs : List FreeEnd
  rest_fs = map (declared_as prog) x.rest_free

  abbrev part_fs : List FreeEnd
  part_fs = map (declared_as prog) x.part_free

  abbrev pub rest : List (ℕ × ℕ) → MachineParts
  rest queue = record { program = r.checked.now.program; agents = agents_in x.left; free = leading_to (map (declared_as r.checked.now.program) x.rest_free) x.rest_ends; queue = queue; vacant = vacant_in (at_rest x.left) }

  abbrev pub part : List (ℕ × ℕ) → MachineParts
  part queue = record { program = r.checked.now.program; agents = agents_in x.new; free = leading_to (map (declared_as r.checked.now.program) x.part_free) x.part_ends; queue = queue; vacant = vacant_in (at_rest x.new) }

  abbrev m : Net ℕ
  m = net_in (reducer_view r)

  abbrev rest_net : Net ℕ
  rest_net = net_of (seen x.left rest_fs x.rest_ends)

  abbrev part_net : Net ℕ
  part_net = net_of (seen x.new part_fs x.part_ends)

  abbrev pub origin : ℕ → ℕ
  origin = origin_in agents x.names

  pub from_where : (j : ℕ) (c : CellNo) → slice_get agents j ≡ Some c → origin (name_in x.names c.0) ≡ c.0
  from_where = origin_is agents x.names h.copied.once

  -- ---- free ends

  all_is : take (own + (cuts + cuts)) es ≡ before.own_ends r k
  all_is = ap (λ (z : ℕ). take z es) (sym (before.whole r k agents own cuts can))

  -- the end at a free end is its partner
  led_from : (j : ℕ) (e : End) → slice_get (before.own_ends r k) j ≡ Some e → m.partner (Free j) ≡ Some (point_of e)
  led_from j e at = partner_seen r.arena fs es (Free j) ∙ ap (option_map point_of) at

  -- a free end of the rest isn't one to which the part leads
  own_or_part : (j e : ℕ) → slice_get ends j ≡ Some (0, e) → IsInPart agents own cuts (Free j) → ⊥
  own_or_part j e at into =
      let f : Some (0, e) ≡ Some (1, into.0) = sym at ∙ ap (slice_get ends) into.2 ∙ first_of_two own cuts into.0 into.1 in
      let z : 0 ≡ 1 = ap (λ (p : ℕ × ℕ). p.0) (same_Some (0, e) (1, into.0) f) in
      omega (arith, z)

  apart : (j e : ℕ) (y : End) → slice_get ends j ≡ Some (0, e) → slice_get (before.own_ends r k) j ≡ Some y → LeadsIntoPart agents ends y → ⊥
  apart j e y at stands into = go y into ((before.back r k).0 (Free j) (point_of y) (led_from j y stands))
    where
      go : (y : End) → LeadsIntoPart agents ends y → m.partner (point_of y) ≡ Some (Free j) → ⊥
      go (end.Cell c i) into to = own_or_part j e at (can.closed into.0 i c (Free j) into.1 to)
      go (end.Free f) into to = own_or_part j e at (can.ends into.0 (Free j) ((few_of_two own cuts f 1 into.0 into.1).2 refl) (ap (λ (z : ℕ). m.partner (Free z)) (places_of_two own cuts f 1 into.0 into.1) ∙ to))

  closed : (j e : ℕ) (y : End) → slice_get ends j ≡ Some (1, e) → slice_get (before.own_ends r k) j ≡ Some y → LeadsIntoPart agents ends y
  closed j e y at stands =
      before.leads_point r k agents own cuts can y
      (can.ends e (point_of y) ((few_of_two own cuts j 1 e at).2 refl) (ap (λ (z : ℕ). m.partner (Free z)) (places_of_two own cuts j 1 e at) ∙ led_from j y stands))

  many_all : (i e : ℕ) → e < length (two_parts rest_net part_net i).free → slice_get ends (place_of_two own i e) ≡ Some (i, e)
  many_all zero e l = rest_of_two own cuts e (let f = (shows_list x.left prog x.rest_free (moved_end (λ z. z) (number_in x.rest_numbers)) (place_of_two own 0) (own + cuts) (take (own + (cuts + cuts)) es) x.rest_ends h.rest_ends h.rest_free.count).many in let g = h.rest_ends.are.count in omega (arith, l, f, g))
  many_all (suc zero) e l = part_of_two own cuts e (let f = (shows_list x.new prog x.part_free (moved_end (name_in x.names) (number_in x.numbers)) (place_of_two own 1) cuts (take (own + (cuts + cuts)) es) x.part_ends h.part_ends h.part_free.count).many in let g = h.part_ends.are.count in omega (arith, l, f, g))
  many_all (suc (suc i)) e l = absurd (omega (arith, l))

  split : AreEndsSplit rest_net part_net agents (name_in x.names) (number_in x.rest_numbers) (number_in x.numbers) (place_of_two own) (before.own_ends r k) h.rest_ends.picked h.part_ends.picked ends
  split = record {
    many = (let e = before.many_ends r k in let f = before.whole r k agents own cuts can in let g = many_of_two own cuts in omega (arith, e, f, g));
    places = λ j i e at. places_of_two own cuts j i e at;
    all = many_all;
    rest = λ j e at. (
        let l = (few_of_two own cuts j 0 e at).1 refl in
        let is = places_of_two own cuts j 0 e at in (
          ap (number_in x.rest_numbers) (sym is) ∙ h.rest_numbered.each e l,
          h.rest_ends.are.each e l ∙ (λ t. option_map (moved_end (λ z. z) (number_in x.rest_numbers)) (slice_get (all_is t) (is t))),
        )
        );
    part = λ j e at. (
        let l = (few_of_two own cuts j 1 e at).2 refl in
        let is = places_of_two own cuts j 1 e at in (
          ap (number_in x.numbers) (sym is) ∙ h.part_numbered.each e l,
          h.part_ends.are.each e l ∙ (λ t. option_map (moved_end (name_in x.names) (number_in x.numbers)) (slice_get (all_is t) (is t))),
        )
        );
    only_two = λ j i e at. (few_of_two own cuts j i e at).0;
    apart = apart;
    closed = closed;
  }

  -- ---- types and names

  rest_listed : length rest_fs ≤ length x.rest_ends
  rest_listed = listed x.left prog x.rest_free (moved_end (λ z. z) (number_in x.rest_numbers)) (place_of_two own 0) (own + cuts) (take (own + (cuts + cuts)) es) x.rest_ends h.rest_ends h.rest_free.count

  part_listed : length part_fs ≤ length x.part_ends
  part_listed = listed x.new prog x.part_free (moved_end (name_in x.names) (number_in x.numbers)) (place_of_two own 1) cuts (take (own + (cuts + cuts)) es) x.part_ends h.part_ends h.part_free.count

  pub rest_many : length (leading_to rest_fs x.rest_ends) ≡ own + cuts
  rest_many = many_led x.left prog x.rest_free (moved_end (λ z. z) (number_in x.rest_numbers)) (place_of_two own 0) (own + cuts) (take (own + (cuts + cuts)) es) x.rest_ends h.rest_ends h.rest_free.count

  pub part_many : length (leading_to part_fs x.part_ends) ≡ cuts
  part_many = many_led x.new prog x.part_free (moved_end (name_in x.names) (number_in x.numbers)) (place_of_two own 1) cuts (take (own + (cuts + cuts)) es) x.part_ends h.part_ends h.part_free.count

  pub rest_room : length x.rest_free + most_ends + most_ends ≤ length x.rest_ends
  rest_room = room_after x.left prog x.rest_free (moved_end (λ z. z) (number_in x.rest_numbers)) (place_of_two own 0) (own + cuts) (take (own + (cuts + cuts)) es) x.rest_ends h.rest_ends h.rest_free.count

  pub part_room : length x.part_free + most_ends + most_ends ≤ length x.part_ends
  part_room = room_after x.new prog x.part_free (moved_end (name_in x.names) (number_in x.numbers)) (place_of_two own 1) cuts (take (own + (cuts + cuts)) es) x.part_ends h.part_ends h.part_free.count

  -- the values of any function of free ends are those of the part and the rest
  of_two : {X : Type 0} (g : FreeEnd → X) (all rest part : List X) → all ≡ map g fs → rest ≡ map g rest_fs → part ≡ map g part_fs → (of : ℕ × ℕ → Option X) → ((e : ℕ) → of (0, e) ≡ slice_get rest e) → ((e : ℕ) → of (1, e) ≡ slice_get part e) →
      map (λ t. Some t) all ≡ map of ends
  of_two {X} g all rest part is_all is_rest is_part of at_rest at_part = made_of_two own cuts all of many
      (λ e l. at_rest e ∙ ap (λ (zs : List X). slice_get zs e) is_rest ∙ picked_at (place_of_two own 0) (own + cuts) (map g fs) (map g rest_fs) (picked_by g (place_of_two own 0) (own + cuts) fs rest_fs (picked_by (declared_as prog) (place_of_two own 0) (own + cuts) r.free.items x.rest_free h.rest_free)) e l
      ∙ ap (λ (zs : List X). slice_get zs (place_of_two own 0 e)) (sym is_all))
      (λ e l. at_part e ∙ ap (λ (zs : List X). slice_get zs e) is_part ∙ picked_at (place_of_two own 1) cuts (map g fs) (map g part_fs) (picked_by g (place_of_two own 1) cuts fs part_fs (picked_by (declared_as prog) (place_of_two own 1) cuts r.free.items x.part_free h.part_free)) e l
      ∙ ap (λ (zs : List X). slice_get zs (place_of_two own 1 e)) (sym is_all))
    where
      many : length all ≡ own + (cuts + cuts)
      many = ap length is_all ∙ length-map fs g ∙ before.whole r k agents own cuts can

  kinds : map (λ t. Some t) m.free ≡ map (λ q. slice_get (two_parts rest_net part_net q.0).free q.1) ends
  kinds = of_two (λ (f : FreeEnd). f.kind) m.free rest_net.free part_net.free (same_kinds fs es (before.fits r k)) (same_kinds rest_fs x.rest_ends rest_listed) (same_kinds part_fs x.part_ends part_listed)
      (λ q. slice_get (two_parts rest_net part_net q.0).free q.1) (λ e. refl) (λ e. refl)

  pub names_are : (q o : List (ℕ × ℕ)) → map (λ t. Some t) (names_of (reducer_view r)) ≡ map (names_of_two (names_of (rest q)) (names_of (part o))) ends
  names_are q o = of_two (λ (f : FreeEnd). f.name) (names_of (reducer_view r)) (names_of (rest q)) (names_of (part o)) (same_names fs es (before.fits r k)) (same_names rest_fs x.rest_ends rest_listed) (same_names part_fs x.part_ends part_listed)
      (names_of_two (names_of (rest q)) (names_of (part o))) (λ e. refl) (λ e. refl)

  -- ---- the nets

  rest_shows : ShowsAll x.left h.rest_ends.picked rest_net
  rest_shows = shows_list x.left prog x.rest_free (moved_end (λ z. z) (number_in x.rest_numbers)) (place_of_two own 0) (own + cuts) (take (own + (cuts + cuts)) es) x.rest_ends h.rest_ends h.rest_free.count

  part_shows : ShowsAll x.new h.part_ends.picked part_net
  part_shows = shows_list x.new prog x.part_free (moved_end (name_in x.names) (number_in x.numbers)) (place_of_two own 1) cuts (take (own + (cuts + cuts)) es) x.part_ends h.part_ends h.part_free.count

  pub stand : StandBeside rest_net part_net origin ends m
  stand = part_stands_beside r.arena x.left x.first x.new agents x.names x.numbers (number_in x.rest_numbers) origin (place_of_two own) (before.own_ends r k) h.rest_ends.picked h.part_ends.picked ends m rest_net part_net (before.shows r k) (before.back r k) rest_shows part_shows
      h.copied (no_word x.first (each x.size) h.same h.empty) h.lost.out from_where (before.leads r k agents own cuts can) split kinds

  pub nets : IsNet (signature_of prog.tables) rest_net × IsNet (signature_of prog.tables) part_net
  nets = split_are_nets (signature_of prog.tables) r.arena x.left x.first x.new agents x.names x.numbers (number_in x.rest_numbers) origin (place_of_two own) (before.own_ends r k) h.rest_ends.picked h.part_ends.picked ends m rest_net part_net k.reducer.net.sound.net (before.shows r k) rest_shows part_shows
      h.copied (no_word x.first (each x.size) h.same h.empty) h.lost.out from_where (before.leads r k agents own cuts can) split kinds

  pub sound : IsSound (system_of prog) rest_net × IsSound (system_of prog) part_net
  sound = beside_parts_are_sound (system_of prog) rest_net part_net m origin ends k.reducer.net.sound nets.0 nets.1 stand
