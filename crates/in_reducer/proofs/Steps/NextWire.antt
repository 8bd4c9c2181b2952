-- The next wire of a right member, and the places from which its sides are read.
use Rattle.std.proofs.Common.{◌≡◌, ◌<◌, ◌+◌, ℕ, List, length, map, slice_get, Some, refl, ap, subst, ◌∙◌, inl, inr, arith}
use Rattle.std.proofs.lemmas.List.{length-map}
use Rattle.std.proofs.lemmas.Option.{slice_get-map, slice_get_within}
use Rattle.std.specs.Prelude.{option_map, slice_index_or}
use Rattle.in_base.proofs.Among.{among_at}
use Rattle.in_base.proofs.Places.{kept_at}
use Rattle.in_arena.specs.Arenas.{ArenaView}
use Rattle.in_arena.specs.declared.content.CellNo.{CellNo}
use Rattle.in_arena.specs.declared.content.End.{End}
use Rattle.in_symbols.specs.Tables.{Tables}
use Rattle.in_net.specs.Nets.{Point, Port, Free, IsPoint, Net, net_of, signature_of}
use Rattle.in_net.proofs.Public.{symbol_of}
use Rattle.in_cells.specs.Between.{Interaction, before, redex_of}
use Rattle.in_cells.specs.Shown.{end_of}
use Rattle.in_cells.proofs.Public.{past_first}
use Rattle.in_compile.specs.declared.joints.Joint.{Joint}
use Rattle.in_compile.specs.declared.joints.Joint.TheVariants.{ToAgent, ToBoundary}
use Rattle.in_compile.specs.Templates.{TemplateParts}
use Rattle.in_compile.specs.Wires.{both_points, over_of, over_point, place_in, point_at, slot_of, within_of}
use Rattle.in_overwriting.proofs.Public.{sides_are_apart}
use Rattle.in_reducer.specs.Interacting.{PairSetting, interaction_of, named}
use Rattle.in_reducer.specs.Wiring.{IsAtPlace, IsSideOf, IsWiring, wires_of}
use Rattle.in_reducer.proofs.Steps.Laid.{agent_at}

module _ (t : Tables) (s : PairSetting) (p : TemplateParts) (own : ℕ) (ns : List CellNo) (points : List End) (k : ℕ) (a : ArenaView) (es : List End) (h : IsWiring t s p own ns points k a es) where
  abbrev x : Interaction
  x = interaction_of s ns

  abbrev m : Net ℕ
  m = net_of s.rule.member

  abbrev over : List (Point ℕ × Point ℕ)
  over = map (λ w. (Free w.0, w.1)) (map over_point (over_of p.member))

  -- the place from which the side of a joint is read
  pub record IsReadAt (j : Joint) : Type 0 where
    pub side : Point ℕ
    pub is_side : IsSideOf t x (point_at j) side
    pub point : End
    pub stands : slice_get points (slot_of j) ≡ Some point
    pub at : IsAtPlace point (place_in j) (end_of side)

  pub read_at : (j : Joint) → IsPoint (signature_of t) m (point_at j) → IsReadAt j
  read_at (ToBoundary e) there =
      let u = (sides_are_apart (signature_of t) (before x) (redex_of x) x.name h.from.can).side (Free e) there in
      record { side = u.0; is_side = u.1; point = end_of u.0; stands = h.sides.ends e u.0 there u.1; at = inl (refl, refl) }
  read_at (ToAgent l i) there =
      let symbol = symbol_of (signature_of t) (m.symbol l) i there in
      let agent = agent_at t s.rule.member h.member_over p.member h.template.member l symbol.0 symbol.1 in
      let low : l < length ns = (let w = slice_get_within p.member.agents l agent.0 agent.1 in let c = h.many in omega (arith, w, c)) in
      record {
        side = Port (named ns l) i;
        is_side = refl;
        point = end_of (Port (named ns l) 0);
        stands = h.sides.agents l low;
        at = inr (slice_index_or ns l (record { 0 = 0 }), refl, refl);
      }

  near : (v w : Point ℕ) → m.partner v ≡ Some w → IsPoint (signature_of t) m v
  near v w e = h.from.can.inside.points v w e

  far : (v w : Point ℕ) → m.partner v ≡ Some w → IsPoint (signature_of t) m w
  far v w e = h.from.can.inside.points w v (h.from.can.inside.back v w e)

  -- ---- a wire with a boundary end

  pub over_at : (i e : ℕ) (j : Joint) → slice_get (over_of p.member) i ≡ Some (e, j) → slice_get (map over_point (over_of p.member)) i ≡ Some (e, point_at j)
  over_at i e j at = slice_get-map over_point (over_of p.member) i ∙ ap (option_map over_point) at

  pub over_wire : (i e : ℕ) (j : Joint) → slice_get (over_of p.member) i ≡ Some (e, j) → slice_get (wires_of p.member) i ≡ Some (Free e, point_at j)
  over_wire i e j at =
      kept_at over (map both_points (within_of p.member)) i (Free e, point_at j)
      (slice_get-map (λ (w : ℕ × Point ℕ). (Free w.0, w.1)) (map over_point (over_of p.member)) i ∙ ap (option_map (λ (w : ℕ × Point ℕ). (Free w.0, w.1))) (over_at i e j at))

  pub outer_read : (i e : ℕ) (j : Joint) → slice_get (over_of p.member) i ≡ Some (e, j) → IsReadAt (ToBoundary e)
  outer_read i e j at = read_at (ToBoundary e) (near (Free e) (point_at j) (h.from.all.wire (Free e) (point_at j) (among_at (wires_of p.member) i (Free e, point_at j) (over_wire i e j at))))

  pub inner_read : (i e : ℕ) (j : Joint) → slice_get (over_of p.member) i ≡ Some (e, j) → IsReadAt j
  inner_read i e j at = read_at j (far (Free e) (point_at j) (h.from.all.wire (Free e) (point_at j) (among_at (wires_of p.member) i (Free e, point_at j) (over_wire i e j at))))

  -- ---- a wire within the right member

  pub within_wire : (i : ℕ) (j l : Joint) → slice_get (within_of p.member) i ≡ Some (j, l) → slice_get (wires_of p.member) (length (over_of p.member) + i) ≡ Some (point_at j, point_at l)
  within_wire i j l at =
      subst (λ (n : ℕ). slice_get (wires_of p.member) (n + i) ≡ Some (point_at j, point_at l)) many
      (past_first over (map both_points (within_of p.member)) i ∙ slice_get-map both_points (within_of p.member) i ∙ ap (option_map both_points) at)
    where
      many : length over ≡ length (over_of p.member)
      many = length-map (map over_point (over_of p.member)) (λ (w : ℕ × Point ℕ). (Free w.0, w.1)) ∙ length-map (over_of p.member) over_point

  pub one_read : (i : ℕ) (j l : Joint) → slice_get (within_of p.member) i ≡ Some (j, l) → IsReadAt j
  one_read i j l at = read_at j (near (point_at j) (point_at l) (h.from.all.wire (point_at j) (point_at l) (among_at (wires_of p.member) (length (over_of p.member) + i) (point_at j, point_at l) (within_wire i j l at))))

  pub other_read : (i : ℕ) (j l : Joint) → slice_get (within_of p.member) i ≡ Some (j, l) → IsReadAt l
  other_read i j l at = read_at l (far (point_at j) (point_at l) (h.from.all.wire (point_at j) (point_at l) (among_at (wires_of p.member) (length (over_of p.member) + i) (point_at j, point_at l) (within_wire i j l at))))
