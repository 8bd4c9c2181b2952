-- Once the right member is beside the net and the pair is retired, the cells show the net taken apart.
use Rattle.std.proofs.Common.{◌≡◌, ◌≢◌, ◌⊎◌, ◌+◌, ◌<◌, ◌≤◌, ℕ, suc, List, length, take, slice_get, Option, Some, None, option_map, refl, sym, ap, subst, ◌∙◌, inl, inr, arith}
use native.Mathlib.Decide.{ℕ_discrete}
use Rattle.std.specs.Prelude.{IsSome, IsSomeAnd}
use Rattle.std.proofs.lemmas.Option.{slice_get-get_or}
use Rattle.in_arena.specs.Arenas.{ArenaView, state_at}
use Rattle.in_arena.specs.States.{State, Vacant, Leased, Live, places, word_of, end_at}
use Rattle.in_arena.specs.declared.content.End.{End}
use Rattle.in_arena.specs.declared.content.End.TheVariants as end
use Rattle.in_gluing.proofs.Public.{next_outer, at_end, mapped, rest_exists, taken_apart_exists}
use Rattle.in_base.proofs.Places.{is_some as some_here}
use Rattle.in_interaction.proofs.Public.{has_value}
use Rattle.in_net.specs.Interactions.{Redex, Outer}
use Rattle.in_net.specs.Nets.{Point, Port, Free, Signature, Net, IsPoint, net_of, signature_of}
use Rattle.in_net.proofs.Public.{symbol_of, symbol_known}
use Rattle.in_symbols.specs.Tables.{Tables, IsSymbol}
use Rattle.in_syntax.specs.declared.symbol_no.SymbolNo.{SymbolNo}
use Rattle.in_net.specs.Built.{IsOver}
use Rattle.in_net.specs.Parts.{Parts, symbol_in}
use Rattle.in_gluing.specs.AsGluing.{IsInRest, IsRestOf, CanStep, boundary_port}
use Rattle.in_gluing.specs.EndByEnd.{outer_end, inner_end, IsOuterAt, IsInnerAt, IsTakenApart}
use Rattle.in_cells.specs.Between.{Interaction, before, redex_of}
use Rattle.in_cells.specs.Shown.{point_of, end_of, stands_at, IsSideBelow, IsPointUpTo, IsShownUpTo}
use Rattle.in_cells.specs.Start.{IsNew, AreSet, SetHasSymbols, SetIsReady}
use Rattle.in_cells.proofs.AllShown.{take_at, place_within}
use Rattle.in_cells.proofs.Writes.{point_end, end_point as end_spot}

place_has : (s : State) (i : ℕ) → i < places s → (x : End) × (end_at s i ≡ Some x)
place_has Vacant i h = absurd (omega (arith, h))
place_has Leased i h = absurd (omega (arith, h))
place_has (Live word ends) i h = let d = end.Free 0 in (_, slice_get-get_or ends i d h)

-- ---- the place of a point's partner

module _ (sig : Signature) (n : Net ℕ) (x : Redex ℕ ℕ) (name : ℕ → ℕ) (can : CanStep sig n x name) where
  abbrev rest : (rest : Net ℕ) × IsRestOf sig n x rest
  rest = rest_exists sig n x can.net can.inside can.redex

  in_rest : (p u : Point ℕ) → IsOuterAt sig n x p u → (r : Point ℕ) × IsInRest sig x p r
  in_rest (Port y i) u (inl h) = (Port y i, inl (h.0, h.1, refl))
  in_rest (Port y i) u (inr h) = (Free h.0, inr (h.0, h.1, h.2, refl))
  in_rest (Free k) u h = (Free (length x.member.free + k), refl)

  outer_of : (q r : Point ℕ) → IsInRest sig x q r → (v : Point ℕ) × IsOuterAt sig n x q v
  outer_of (Port y i) r (inl h) = (Port y i, inl (h.0, h.1, refl))
  outer_of (Port y i) r (inr h) = (Free (outer_end n x h.0), inr (h.0, h.1, h.2, refl))
  outer_of (Free k) r h = (Free k, refl)

  pub outer_next : (p u q : Point ℕ) → IsPoint sig n p → IsOuterAt sig n x p u → n.partner p ≡ Some q → (v : Point ℕ) × IsOuterAt sig n x q v
  outer_next p u q there at wire =
      let r = in_rest p u at in
      let s = next_outer sig n x name rest.0 can rest.1 r.0 p q (there, r.1) wire in
      outer_of q s.0 s.1.1

  pub end_point : (e : ℕ) → e < length x.member.free → IsPoint sig n (boundary_port sig x e)
  end_point e low = (at_end sig n x name rest.0 can rest.1 Outer e low).0

  pub inner_next : (q : Point ℕ) → (v : Point ℕ) × IsInnerAt n x name q v
  inner_next (Port k i) = (Port (name k) i, refl)
  inner_next (Free e) = (Free (inner_end n x e), refl)

-- ---- the net taken apart is shown

module _ (t : Tables) (x : Interaction) (own many : ℕ) (old a : ArenaView) (ends : List End) (set : AreSet t x own many old a ends) (m : Net ℕ) (apart : IsTakenApart (signature_of t) (before x) (redex_of x) x.name m) where
  abbrev sig : Signature
  sig = signature_of t

  abbrev n : Net ℕ
  n = before x

  abbrev r : Redex ℕ ℕ
  r = redex_of x

  abbrev can : CanStep sig n r x.name
  can = set.given.can

  own_is : own ≡ length n.free
  own_is = set.given.own_ends

  many_is : many ≡ length r.member.free
  many_is = set.given.boundary

  -- ---- cells

  vacant_none : (y : ℕ) → state_at a y ≡ Vacant → (s : ℕ) → word_of (state_at a y) ≡ Some s → ⊥
  vacant_none y h s e = let f : None ≡ Some s = ap word_of (sym h) ∙ e in cc

  not_new : (y s : ℕ) → n.symbol y ≡ Some s → IsNew x y → ⊥
  not_new y s h (k, w, symbol, named) = let f : None ≡ Some s = sym (can.naming.fresh k w symbol) ∙ ap n.symbol named ∙ h in cc

  as_before : (y s : ℕ) → y ≢ x.one.0 → y ≢ x.two.0 → n.symbol y ≡ Some s → state_at a y ≡ state_at old y
  as_before y s one two h = elim (set.others y one two) [ inl new ↦ absurd (not_new y s h new) | inr same ↦ same ]

  abbrev After : ℕ → ℕ → Type 0
  After y s = ((y ≢ x.one.0) × (y ≢ x.two.0) × (n.symbol y ≡ Some s)) ⊎ ((k : ℕ) × (x.name k ≡ y) × (r.member.symbol k ≡ Some s))

  agent_forth : (y s : ℕ) → After y s → word_of (state_at a y) ≡ Some s
  agent_forth y s (inl (one, two, h)) = ap word_of (as_before y s one two h) ∙ sym (set.shown.agents y) ∙ h
  agent_forth y s (inr (k, named, h)) = ap (λ (y : ℕ). word_of (state_at a y)) (sym named) ∙ set.laid.symbols k s h

  agent_back : (y s : ℕ) → word_of (state_at a y) ≡ Some s → After y s
  agent_back y s h = go (ℕ_discrete y x.one.0) (ℕ_discrete y x.two.0)
    where
      other : y ≢ x.one.0 → y ≢ x.two.0 → IsNew x y ⊎ (state_at a y ≡ state_at old y) → After y s
      other one two (inl (k, w, symbol, named)) =
          let e : Some w ≡ Some s = sym (set.laid.symbols k w symbol) ∙ ap (λ (y : ℕ). word_of (state_at a y)) named ∙ h in
          inr (k, named, symbol ∙ e)
      other one two (inr same) = inl (one, two, set.shown.agents y ∙ ap word_of (sym same) ∙ h)

      go : Dec (y ≡ x.one.0) → Dec (y ≡ x.two.0) → After y s
      go (yes e) d = absurd (vacant_none y (ap (state_at a) e ∙ set.one) s h)
      go (no c) (yes e) = absurd (vacant_none y (ap (state_at a) e ∙ set.two) s h)
      go (no c) (no d) = other c d (set.others y c d)

  -- ---- the end at a point of the net before

  stood : (p q : Point ℕ) → n.partner p ≡ Some q → stands_at old (take own ends) p ≡ Some (end_of q)
  stood p q h =
      let w = mapped point_of (stands_at old (take own ends) p) q (sym (set.shown.wires p) ∙ h) in
      w.1 ∙ ap (λ (w : End). Some w) (sym (point_end w.0) ∙ ap end_of w.2)

  -- .. is still there
  stands_yet : (y i : ℕ) (q : Point ℕ) → y ≢ x.one.0 → y ≢ x.two.0 → n.partner (Port y i) ≡ Some q → end_at (state_at a y) i ≡ Some (end_of q)
  stands_yet y i q one two h =
      let s = symbol_of sig (n.symbol y) i (can.net.points (Port y i) q h) in
      ap (λ (s : State). end_at s i) (as_before y s.0 one two s.1) ∙ stood (Port y i) q h

  own_low : (k : ℕ) (q : Point ℕ) → n.partner (Free k) ≡ Some q → k < own
  own_low k q h = subst (λ (o : ℕ). k < o) (sym own_is) (can.net.points (Free k) q h)

  free_yet : (k : ℕ) (q : Point ℕ) → n.partner (Free k) ≡ Some q → slice_get ends k ≡ Some (end_of q)
  free_yet k q h = sym (take_at own k ends (own_low k q h)) ∙ stood (Free k) q h

  -- ---- sides

  abbrev Side : Point ℕ → Type 0
  Side u = IsSideBelow own many many u

  outer_side : (e : ℕ) (u : Point ℕ) → e < length r.member.free → u ≡ Free (outer_end n r e) → Side u
  outer_side e u low h = subst Side (sym h) (e, subst (λ (k : ℕ). e < k) (sym many_is) low, inl (ap (λ (o : ℕ). o + e) (sym own_is)))

  inner_side : (e : ℕ) (u : Point ℕ) → e < length r.member.free → u ≡ Free (inner_end n r e) → Side u
  inner_side e u low h = subst Side (sym h) (e, subst (λ (k : ℕ). e < k) (sym many_is) low, inr (ap (λ (o : ℕ). o + length r.member.free + e) (sym own_is) ∙ ap (λ (k : ℕ). own + k + e) (sym many_is)))

  -- a point of the net before that is no side still has its end
  outer_same : (q v : Point ℕ) → IsOuterAt sig n r q v → (Side v → ⊥) → v ≡ q
  outer_same (Port y i) v (inl h) none = h.2
  outer_same (Port y i) v (inr h) none = absurd (none (outer_side h.0 v h.1 h.3))
  outer_same (Free k) v h none = h

  abbrev Exact : Point ℕ → Point ℕ → Type 0
  Exact u v = Side u ⊎ (Side v → ⊥)

  no_side_port : (y i : ℕ) (u v : Point ℕ) → u ≡ Port y i → Exact u v → Side v → ⊥
  no_side_port y i u v h (inl s) = absurd (subst Side h s)
  no_side_port y i u v h (inr s) = s

  no_side_free : (k : ℕ) (u v : Point ℕ) → u ≡ Free k → k < own → Exact u v → Side v → ⊥
  no_side_free k u v h low (inl s) = let side = subst Side h s in absurd (beyond side.0 side.2)
    where
      beyond : (d : ℕ) → (k ≡ own + d) ⊎ (k ≡ own + many + d) → ⊥
      beyond d (inl e) = omega (arith, e, low)
      beyond d (inr e) = omega (arith, e, low)
  no_side_free k u v h low (inr s) = s

  -- ---- wires

  outer_stands : (p q u v : Point ℕ) → IsOuterAt sig n r p u → IsOuterAt sig n r q v → n.partner p ≡ Some q → Exact u v → stands_at a ends u ≡ Some (end_of v)
  outer_stands (Port y i) q u v (inl (one, two, is)) at wire exact =
      ap (stands_at a ends) is ∙ stands_yet y i q one two wire ∙ ap (λ (v : Point ℕ). Some (end_of v)) (sym (outer_same q v at (no_side_port y i u v is exact)))
  outer_stands (Port y i) q u v (inr (e, low, port, is)) at wire exact =
      ap (stands_at a ends) is ∙ ap (λ (o : ℕ). slice_get ends (o + e)) (sym own_is)
      ∙ set.outer e (end_of q) v low (stood (boundary_port sig r e) q (ap n.partner port ∙ wire)) (subst (λ (q : Point ℕ). IsOuterAt sig n r q v) (sym (end_spot q)) at)
  outer_stands (Free k) q u v is at wire exact =
      ap (stands_at a ends) is ∙ free_yet k q wire ∙ ap (λ (v : Point ℕ). Some (end_of v)) (sym (outer_same q v at (no_side_free k u v is (own_low k q wire) exact)))

  inner_same : (q v : Point ℕ) → IsPoint sig r.member q → IsInnerAt n r x.name q v → (Side v → ⊥) → (l j : ℕ) × (q ≡ Port l j) × (v ≡ Port (x.name l) j)
  inner_same (Port l j) v there h none = (l, j, refl, h)
  inner_same (Free e) v there h none = absurd (none (inner_side e v there h))

  inner_stands : (p q u v : Point ℕ) → IsInnerAt n r x.name p u → IsInnerAt n r x.name q v → r.member.partner p ≡ Some q → Exact u v → stands_at a ends u ≡ Some (end_of v)
  inner_stands (Port k i) q u v is at wire exact =
      let there = can.inside.points q (Port k i) (can.inside.back (Port k i) q wire) in
      let s = inner_same q v there at (no_side_port (x.name k) i u v is exact) in
      ap (stands_at a ends) is ∙ set.laid.wires k i s.0 s.1 (wire ∙ ap (λ (q : Point ℕ). Some q) s.2) ∙ ap (λ (v : Point ℕ). Some (end_of v)) (sym s.3)
  inner_stands (Free e) q u v is at wire exact =
      ap (stands_at a ends) is ∙ ap (λ (o : ℕ). slice_get ends (o + length r.member.free + e)) (sym own_is) ∙ ap (λ (k : ℕ). slice_get ends (own + k + e)) (sym many_is)
      ∙ set.inner e q v wire at

  stands : (u v : Point ℕ) → m.partner u ≡ Some v → Exact u v → stands_at a ends u ≡ Some (end_of v)
  stands u v h exact = elim ((apart.wires u v).0 h) [
    | inl w ↦ outer_stands w.0 w.1 u v w.2 w.3 w.4 exact
    | inr w ↦ inner_stands w.0 w.1 u v w.2 w.3 w.4 exact
  ]

  -- ---- points

  abbrev There : Point ℕ → Type 0
  There u = IsPointUpTo a own many many u

  side_there : (u : Point ℕ) → Side u → There u
  side_there (Port y i) s = absurd s
  side_there (Free k) s = inr s

  outer_there : (p q u : Point ℕ) → IsOuterAt sig n r p u → n.partner p ≡ Some q → There u
  outer_there (Port y i) q u (inl (one, two, is)) wire = subst There (sym is) (place_within (state_at a y) i (end_of q) (stands_yet y i q one two wire))
  outer_there (Port y i) q u (inr (e, low, port, is)) wire = side_there u (outer_side e u low is)
  outer_there (Free k) q u is wire = subst There (sym is) (inl (own_low k q wire))

  new_place : (k i : ℕ) → IsPoint sig r.member (Port k i) → i < places (state_at a (x.name k))
  new_place k i there = go (r.member.symbol k) refl there
    where
      go : (o : Option ℕ) → r.member.symbol k ≡ o → IsSomeAnd o (λ s. i ≤ sig.arity s) → i < places (state_at a (x.name k))
      go None e h = absurd h
      go (Some s) e h = let f = set.laid.places k s e in omega (arith, f, h)

  inner_there : (p q u : Point ℕ) → IsInnerAt n r x.name p u → r.member.partner p ≡ Some q → There u
  inner_there (Port k i) q u is wire = subst There (sym is) (new_place k i (can.inside.points (Port k i) q wire))
  inner_there (Free e) q u is wire = side_there u (inner_side e u (can.inside.points (Free e) q wire) is)

  points_forth : (u : Point ℕ) → IsSome (m.partner u) → There u
  points_forth u some =
      let v = has_value (m.partner u) some in
      elim ((apart.wires u v.0).0 v.1) [ inl w ↦ outer_there w.0 w.1 u w.2 w.4 | inr w ↦ inner_there w.0 w.1 u w.2 w.4 ]

  outer_wired : (p u : Point ℕ) → IsPoint sig n p → IsOuterAt sig n r p u → IsSome (n.partner p) → IsSome (m.partner u)
  outer_wired p u there at some =
      let q = has_value (n.partner p) some in
      let v = outer_next sig n r x.name can p u q.0 there at q.1 in
      some_here (m.partner u) v.0 ((apart.wires u v.0).1 (inl (p, q.0, at, v.1, q.1)))

  inner_wired : (p u : Point ℕ) → IsPoint sig r.member p → IsInnerAt n r x.name p u → IsSome (m.partner u)
  inner_wired p u there at =
      let q = has_value (r.member.partner p) (can.inside.joined p there) in
      let v = inner_next sig n r x.name can q.0 in
      some_here (m.partner u) v.0 ((apart.wires u v.0).1 (inr (p, q.0, at, v.1, q.1)))

  old_wired : (y i : ℕ) → y ≢ x.one.0 → y ≢ x.two.0 → i < places (state_at old y) → IsSome (m.partner (Port y i))
  old_wired y i one two h =
      let w = place_has (state_at old y) i h in
      let wire = set.shown.wires (Port y i) ∙ ap (option_map point_of) w.1 in
      outer_wired (Port y i) (Port y i) (can.net.points (Port y i) (point_of w.0) wire) (inl (one, two, refl)) (some_here (n.partner (Port y i)) (point_of w.0) wire)

  new_wired : (y i : ℕ) → IsNew x y → i < places (state_at a y) → IsSome (m.partner (Port y i))
  new_wired y i (k, s, symbol, named) h =
      let f : places (state_at a y) ≡ suc (sig.arity s) = ap (λ (y : ℕ). places (state_at a y)) (sym named) ∙ set.laid.places k s symbol in
      let low : i ≤ sig.arity s = omega (arith, f, h) in
      inner_wired (Port k i) (Port y i) (subst (λ (o : Option ℕ). IsSomeAnd o (λ s. i ≤ sig.arity s)) (sym symbol) low) (ap (λ (y : ℕ). Port y i) (sym named))

  vacant_place : (y i : ℕ) → state_at a y ≡ Vacant → i < places (state_at a y) → ⊥
  vacant_place y i e h = let f : places (state_at a y) ≡ 0 = ap places e in omega (arith, f, h)

  port_wired : (y i : ℕ) → i < places (state_at a y) → Dec (y ≡ x.one.0) → Dec (y ≡ x.two.0) → IsSome (m.partner (Port y i))
  port_wired y i h (yes e) d = absurd (vacant_place y i (ap (state_at a) e ∙ set.one) h)
  port_wired y i h (no c) (yes e) = absurd (vacant_place y i (ap (state_at a) e ∙ set.two) h)
  port_wired y i h (no c) (no d) = elim (set.others y c d) [
    | inl new ↦ new_wired y i new h
    | inr same ↦ old_wired y i c d (subst (λ (s : State). i < places s) same h)
  ]

  points_back : (u : Point ℕ) → There u → IsSome (m.partner u)
  points_back (Port y i) h = port_wired y i h (ℕ_discrete y x.one.0) (ℕ_discrete y x.two.0)
  points_back (Free k) (inl low) =
      let there : k < length n.free = subst (λ (o : ℕ). k < o) own_is low in
      outer_wired (Free k) (Free k) there refl (can.net.joined (Free k) there)
  points_back (Free k) (inr (e, low, inl is)) =
      let below = subst (λ (k : ℕ). e < k) many_is low in
      let there = end_point sig n r x.name can e below in
      outer_wired (boundary_port sig r e) (Free k) there (inr (e, below, refl, ap (λ (k : ℕ). Free k) (is ∙ ap (λ (o : ℕ). o + e) own_is))) (can.net.joined (boundary_port sig r e) there)
  points_back (Free k) (inr (e, low, inr is)) =
      let below = subst (λ (k : ℕ). e < k) many_is low in
      inner_wired (Free e) (Free k) below (ap (λ (k : ℕ). Free k) (is ∙ ap (λ (o : ℕ). o + many + e) own_is ∙ ap (λ (k : ℕ). length n.free + k + e) many_is))

  pub shown_apart : IsShownUpTo own many many a ends m
  shown_apart = record {
    agents = λ y s. ((λ h. agent_forth y s ((apart.agents y s).0 h)), (λ h. (apart.agents y s).1 (agent_back y s h)));
    points = λ u. ((λ h. points_forth u h), (λ h. points_back u h));
    wires = λ u v h exact. stands u v h exact;
    room = set.room;
  }

pub set_has_symbols : SetHasSymbols
set_has_symbols t x own many old a ends net_over member_over set y s h = go (agent_back t x own many old a ends set apart.0 apart.1 y s h)
  where
    apart : (m : Net ℕ) × IsTakenApart (signature_of t) (before x) (redex_of x) x.name m × (m.free ≡ (before x).free)
    apart = taken_apart_exists (signature_of t) (before x) (redex_of x) x.name set.given.can

    known : (n : Parts) (y : ℕ) → IsOver t n → (net_of n).symbol y ≡ Some s → IsSymbol t s
    known n y over e = let z = mapped (λ (s : SymbolNo). s.0) (symbol_in n y) s e in subst (IsSymbol t) z.2 (symbol_known t n y z.0 over z.1)

    go : ((y ≢ x.one.0) × (y ≢ x.two.0) × ((before x).symbol y ≡ Some s)) ⊎ ((k : ℕ) × (x.name k ≡ y) × ((redex_of x).member.symbol k ≡ Some s)) → IsSymbol t s
    go (inl k) = known x.net y net_over k.2
    go (inr k) = known x.rule.member k.0 member_over k.2

pub set_is_ready : SetIsReady
set_is_ready t x own many old a ends set =
    let m = taken_apart_exists (signature_of t) (before x) (redex_of x) x.name set.given.can in
    record { given = set.given; net = m.0; apart = m.1; free = m.2; shown = shown_apart t x own many old a ends set m.0 m.1 }
