-- One wire of a right member is written: the conditions, and the result.
use Rattle.std.proofs.Common.{◌≡◌, ◌<◌, ◌+◌, ℕ, Bool, Some, List, length, map, slice_get, refl, sym, ap, subst, ◌∙◌, inl, inr, arith}
use Rattle.std.specs.Prelude.{option_map, slice_index_or}
use Rattle.std.proofs.lemmas.List.{length-map}
use Rattle.std.proofs.lemmas.Option.{get_or_from_slice_get, slice_get-map, slice_get_within}
use Rattle.in_base.proofs.Each.{at_index}
use Rattle.in_arena.specs.Arenas.{ArenaView}
use Rattle.in_arena.specs.declared.content.CellNo.{CellNo}
use Rattle.in_arena.specs.declared.content.End.{End}
use Rattle.in_symbols.specs.Tables.{Tables}
use Rattle.in_symbols.specs.declared.symbols.PortType.{PortType}
use Rattle.in_net.specs.declared.nets.FreeEnd.{FreeEnd}
use Rattle.in_net.specs.Nets.{Free, net_of}
use Rattle.in_gluing.proofs.Public.{mapped}
use Rattle.in_cells.specs.Between.{Interaction}
use Rattle.in_cells.specs.Cells.{KeepsCells}
use Rattle.in_cells.specs.Shown.{AreExchanged, IsPlaceAt, end_of}
use Rattle.in_cells.proofs.Public.{exchange_keeps}
use Rattle.in_compile.specs.declared.joints.Joint.{Joint}
use Rattle.in_compile.specs.declared.joints.Joint.TheVariants.{ToBoundary}
use Rattle.in_compile.specs.Templates.{TemplateParts}
use Rattle.in_compile.specs.Wires.{over_of, over_point, place_in, point_at, slot_of, within_of}
use Rattle.in_reducer.specs.Interacting.{PairSetting, interaction_of}
use Rattle.in_compile.proofs.Public.{over_ends}
use Rattle.in_reducer.specs.Wiring.{AddsInOrder, HasQueued, IsAtPlace, IsWiring, wires_of}
use Rattle.in_reducer.proofs.Steps.NextWire.{IsReadAt, inner_read, one_read, other_read, outer_read, over_at, over_wire, within_wire}
use Rattle.in_reducer.proofs.Steps.Wired as wires

-- an end is at the slot and place of a joint
abbrev pub CanBeRead : List End → Joint → Type 0
CanBeRead points j = (slot place : ℕ) → slot ≡ slot_of j → place ≡ place_in j → (y : End) × (z : End) × (slice_get points slot ≡ Some y) × IsAtPlace y place z

module _ (t : Tables) (s : PairSetting) (p : TemplateParts) (own : ℕ) (ns : List CellNo) (points : List End) (k : ℕ) (a : ArenaView) (es : List End) (h : IsWiring t s p own ns points k a es) where
  abbrev x : Interaction
  x = interaction_of s ns

  abbrev Read : Joint → Type 0
  Read = IsReadAt t s p own ns points k a es h

  -- ---- reading

  -- a side is read at its slot and place
  pub can_read : (j : Joint) → Read j → CanBeRead points j
  can_read j r slot place is_slot is_place = (r.point, end_of r.side, ap (slice_get points) is_slot ∙ r.stands, subst (λ (n : ℕ). IsAtPlace r.point n (end_of r.side)) (sym is_place) r.at)

  pub is_read : (j : Joint) (r : Read j) (slot place : ℕ) → slot ≡ slot_of j → place ≡ place_in j → (result : End) → ((y z : End) → slice_get points slot ≡ Some y → IsAtPlace y place z → result ≡ z) → result ≡ end_of r.side
  unfolding can_read
  is_read j r slot place is_slot is_place result read = let c = can_read j r slot place is_slot is_place in read c.0 c.1 c.2 c.3

  -- at a boundary end's point the side is the point itself
  pub is_outer : (e : ℕ) (r : Read (ToBoundary e)) (n : ℕ) → n ≡ e → (result : End) → result ≡ slice_index_or points n result → result ≡ end_of r.side
  is_outer e r n same result read = read ∙ get_or_from_slice_get points n r.point result (ap (slice_get points) same ∙ r.stands) ∙ itself r.at
    where
      itself : IsAtPlace r.point 0 (end_of r.side) → r.point ≡ end_of r.side
      itself (inl (zero, is)) = sym is
      itself (inr (c, at, is)) = at ∙ sym is

  -- the sign of a boundary end is that of the free end of the right member
  declared : (e : ℕ) (input : Bool) → slice_get p.outputs e ≡ Some input → (z : PortType) × (slice_get (net_of s.rule.member).free e ≡ Some z) × (z.output ≡ input)
  declared e input signed =
      let f = mapped (λ (f : FreeEnd). f.kind.output) (slice_get s.rule.member.free e) input
      (sym (slice_get-map (λ (f : FreeEnd). f.kind.output) s.rule.member.free e) ∙ ap (λ (os : List Bool). slice_get os e) (sym h.template.outputs) ∙ signed) in
      (f.0.kind, slice_get-map (λ (f : FreeEnd). f.kind) s.rule.member.free e ∙ ap (option_map (λ (f : FreeEnd). f.kind)) f.1, f.2)

  -- ---- writing

  module _ (i j : Joint) (at : slice_get (wires_of p.member) k ≡ Some (point_at i, point_at j)) (one : Read i) (two : Read j) (u v : End) (is_u : u ≡ end_of one.side) (is_v : v ≡ end_of two.side) where
    pub place_u : IsPlaceAt a es u
    place_u = subst (IsPlaceAt a es) (sym is_u) (wires.place_u t x (wires_of p.member) h.from.can h.from.all own k a es h.from (point_at i) (point_at j) one.side two.side at one.is_side two.is_side)

    pub place_v : IsPlaceAt a es v
    place_v = subst (IsPlaceAt a es) (sym is_v) (wires.place_v t x (wires_of p.member) h.from.can h.from.all own k a es h.from (point_at i) (point_at j) one.side two.side at one.is_side two.is_side)

    module _ (b : ArenaView) (fs : List End) (exchanged : AreExchanged u v a es b fs) where
      pub kept : KeepsCells a b × (length fs ≡ length es)
      kept = exchange_keeps u v a es b fs place_u place_v exchanged

      at_sides : AreExchanged (end_of one.side) (end_of two.side) a es b fs
      at_sides = subst (λ (z : End). AreExchanged z (end_of two.side) a es b fs) is_u (subst (λ (z : End). AreExchanged u z a es b fs) is_v exchanged)

      pub written : IsWiring t s p own ns points (k + 1) b fs
      written = record {
        member_over = h.member_over;
        template = h.template;
        typed = h.typed;
        typed_inside = h.typed_inside;
        many = h.many;
        sides = h.sides;
        from = wires.one_more t x (wires_of p.member) h.from.can h.from.all own k a es h.from (point_at i) (point_at j) one.side two.side at one.is_side two.is_side b fs at_sides;
      }

      -- the pair that a wire with a boundary end makes
      pub queued : (e : ℕ) → i ≡ ToBoundary e → slice_get (over_of p.member) k ≡ Some (e, j) → (input : Bool) → slice_get p.outputs e ≡ Some input → (first old new : List (ℕ × ℕ))
          → HasQueued t x (map over_point (over_of p.member)) k first old → AddsInOrder input u v old new → HasQueued t x (map over_point (over_of p.member)) (k + 1) first new
      queued e is listed input signed first old new before added =
          let here = over_at t s p own ns points k a es h k e j listed in
          wires.one_more_queued t x (wires_of p.member) h.from.can h.from.all own k a es h.from (point_at i) (point_at j) one.side two.side at one.is_side two.is_side b fs at_sides
          e (ap point_at is) ((over_ends t s.rule.member p.member h.template.member).each k (e, point_at j) here) h.typed h.typed_inside input (declared e input signed) (map over_point (over_of p.member)) here first old new before
          (subst (λ (z : End). AddsInOrder input z (end_of two.side) old new) is_u (subst (λ (z : End). AddsInOrder input u z old new) is_v added))

-- ---- a wire with a boundary end

-- u is read at the boundary end's point, and v at the slot and place of the joint to which the wire leads
pub record HasReadOver (points : List End) (w : ℕ × Joint) (u v : End) : Type 0 where
  pub end : ℕ
  pub slot : ℕ
  pub place : ℕ
  pub is_end : end ≡ w.0
  pub is_slot : slot ≡ slot_of w.1
  pub is_place : place ≡ place_in w.1
  pub outer : u ≡ slice_index_or points end u
  pub inner : (y z : End) → slice_get points slot ≡ Some y → IsAtPlace y place z → v ≡ z

module _ (t : Tables) (s : PairSetting) (p : TemplateParts) (own : ℕ) (ns : List CellNo) (points : List End) (k : ℕ) (a : ArenaView) (es : List End) (h : IsWiring t s p own ns points k a es)
    (w : ℕ × Joint) (listed : slice_get (over_of p.member) k ≡ Some w) where
  outer : IsReadAt t s p own ns points k a es h (ToBoundary w.0)
  outer = outer_read t s p own ns points k a es h k w.0 w.1 listed

  inner : IsReadAt t s p own ns points k a es h w.1
  inner = inner_read t s p own ns points k a es h k w.0 w.1 listed

  pub over_low : (end : ℕ) → end ≡ w.0 → end < length points
  over_low end is = let l = slice_get_within points w.0 outer.point outer.stands in omega (arith, l, is)

  -- .. and has a sign
  pub over_signed : (end : ℕ) → end ≡ w.0 → end < length p.outputs
  over_signed end is =
      let wire = (over_ends t s.rule.member p.member h.template.member).each k (w.0, point_at w.1) (over_at t s p own ns points k a es h k w.0 w.1 listed) in
      let low : w.0 < length (net_of s.rule.member).free = h.from.can.inside.points (Free w.0) (point_at w.1) wire.wire in
      let many = ap length h.template.outputs ∙ length-map s.rule.member.free (λ (f : FreeEnd). f.kind.output) in
      let same = length-map s.rule.member.free (λ (f : FreeEnd). f.kind) in
      omega (arith, low, many, same, is)

  pub over_sign : (input : Bool) × (slice_get p.outputs w.0 ≡ Some input)
  over_sign = at_index p.outputs w.0 (over_signed w.0 refl)

  pub over_can_read : CanBeRead points w.1
  over_can_read = can_read t s p own ns points k a es h w.1 inner

  module _ (u v : End) (r : HasReadOver points w u v) where
    at_wire : slice_get (wires_of p.member) k ≡ Some (point_at (ToBoundary w.0), point_at w.1)
    at_wire = over_wire t s p own ns points k a es h k w.0 w.1 listed

    u_is : u ≡ end_of outer.side
    u_is = is_outer t s p own ns points k a es h w.0 outer r.end r.is_end u r.outer

    v_is : v ≡ end_of inner.side
    v_is = is_read t s p own ns points k a es h w.1 inner r.slot r.place r.is_slot r.is_place v r.inner

    pub over_place_u : IsPlaceAt a es u
    over_place_u = place_u t s p own ns points k a es h (ToBoundary w.0) w.1 at_wire outer inner u v u_is v_is

    pub over_place_v : IsPlaceAt a es v
    over_place_v = place_v t s p own ns points k a es h (ToBoundary w.0) w.1 at_wire outer inner u v u_is v_is

    module _ (b : ArenaView) (fs : List End) (exchanged : AreExchanged u v a es b fs) where
      pub over_kept : KeepsCells a b × (length fs ≡ length es)
      over_kept = kept t s p own ns points k a es h (ToBoundary w.0) w.1 at_wire outer inner u v u_is v_is b fs exchanged

      pub over_written : IsWiring t s p own ns points (k + 1) b fs
      over_written = written t s p own ns points k a es h (ToBoundary w.0) w.1 at_wire outer inner u v u_is v_is b fs exchanged

      pub over_queued : (input : Bool) → slice_get p.outputs w.0 ≡ Some input → (first old new : List (ℕ × ℕ)) → HasQueued t (interaction_of s ns) (map over_point (over_of p.member)) k first old → AddsInOrder input u v old new
          → HasQueued t (interaction_of s ns) (map over_point (over_of p.member)) (k + 1) first new
      over_queued = queued t s p own ns points k a es h (ToBoundary w.0) w.1 at_wire outer inner u v u_is v_is b fs exchanged w.0 refl listed

-- ---- a wire within the right member

-- u and v are read at the slots and places of the two joints
pub record HasReadWithin (points : List End) (w : Joint × Joint) (u v : End) : Type 0 where
  pub slot : ℕ
  pub place : ℕ
  pub other_slot : ℕ
  pub other_place : ℕ
  pub is_slot : slot ≡ slot_of w.0
  pub is_place : place ≡ place_in w.0
  pub is_other_slot : other_slot ≡ slot_of w.1
  pub is_other_place : other_place ≡ place_in w.1
  pub one : (y z : End) → slice_get points slot ≡ Some y → IsAtPlace y place z → u ≡ z
  pub other : (y z : End) → slice_get points other_slot ≡ Some y → IsAtPlace y other_place z → v ≡ z

module _ (t : Tables) (s : PairSetting) (p : TemplateParts) (own : ℕ) (ns : List CellNo) (points : List End) (i : ℕ) (a : ArenaView) (es : List End) (h : IsWiring t s p own ns points (length (over_of p.member) + i) a es)
    (w : Joint × Joint) (listed : slice_get (within_of p.member) i ≡ Some w) where
  abbrev k : ℕ
  k = length (over_of p.member) + i

  one_side : IsReadAt t s p own ns points k a es h w.0
  one_side = one_read t s p own ns points k a es h i w.0 w.1 listed

  other_side : IsReadAt t s p own ns points k a es h w.1
  other_side = other_read t s p own ns points k a es h i w.0 w.1 listed

  pub one_can_read : CanBeRead points w.0
  one_can_read = can_read t s p own ns points k a es h w.0 one_side

  pub other_can_read : CanBeRead points w.1
  other_can_read = can_read t s p own ns points k a es h w.1 other_side

  module _ (u v : End) (r : HasReadWithin points w u v) where
    within_at : slice_get (wires_of p.member) k ≡ Some (point_at w.0, point_at w.1)
    within_at = within_wire t s p own ns points k a es h i w.0 w.1 listed

    one_is : u ≡ end_of one_side.side
    one_is = is_read t s p own ns points k a es h w.0 one_side r.slot r.place r.is_slot r.is_place u r.one

    other_is : v ≡ end_of other_side.side
    other_is = is_read t s p own ns points k a es h w.1 other_side r.other_slot r.other_place r.is_other_slot r.is_other_place v r.other

    pub within_place_u : IsPlaceAt a es u
    within_place_u = place_u t s p own ns points k a es h w.0 w.1 within_at one_side other_side u v one_is other_is

    pub within_place_v : IsPlaceAt a es v
    within_place_v = place_v t s p own ns points k a es h w.0 w.1 within_at one_side other_side u v one_is other_is

    module _ (b : ArenaView) (fs : List End) (exchanged : AreExchanged u v a es b fs) where
      pub within_kept : KeepsCells a b × (length fs ≡ length es)
      within_kept = kept t s p own ns points k a es h w.0 w.1 within_at one_side other_side u v one_is other_is b fs exchanged

      pub within_written : IsWiring t s p own ns points (length (over_of p.member) + (i + 1)) b fs
      within_written =
          let more : length (over_of p.member) + i + 1 ≡ length (over_of p.member) + (i + 1) = omega arith in
          subst (λ (n : ℕ). IsWiring t s p own ns points n b fs) more (written t s p own ns points k a es h w.0 w.1 within_at one_side other_side u v one_is other_is b fs exchanged)
