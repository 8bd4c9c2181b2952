-- A net is the agents left after some were taken out, and copies of those, side by side.
use Rattle.std.proofs.Common.{◌≡◌, ◌⊎◌, ◌<◌, inl, inr, ℕ, zero, suc, true, false, Some, None, List, map, slice_get, refl, sym, ap, subst, ◌∙◌, arith}
use Rattle.std.specs.Prelude.{option_map, IsSome}
use Rattle.std.proofs.lemmas.Option.{same_Some, slice_get_within}
use Rattle.in_base.specs.Lists.{IsAmong}
use Rattle.in_base.proofs.Among.{among_at, in_map}
use Rattle.in_base.proofs.Each.{at_index}
use Rattle.in_arena.specs.Arenas.{ArenaView, state_at}
use Rattle.in_arena.specs.States.{State, Vacant, Leased, Live, IsLive, end_at, word_of}
use Rattle.in_arena.specs.declared.content.CellNo.{CellNo}
use Rattle.in_arena.specs.declared.content.End.{End}
use Rattle.in_arena.specs.declared.content.End.TheVariants.{Cell, Free as FreeEnd}
use Rattle.in_arena.proofs.Public.{word_live}
use Rattle.in_net.specs.Nets.{Point, Port, Free, Net, IsNet, Signature}
use Rattle.in_gluing.specs.AsGluing.{old_and_new, two_parts}
use Rattle.in_gluing.specs.Joining.{IsAtNumber, IsBeside, WiresLeadBack}
use Rattle.in_gluing.specs.Laws.{KeepsApart}
use Rattle.in_gluing.proofs.Public.{mapped, beside_parts_are_nets}
use Rattle.in_cells.specs.Shown.{point_of}
use Rattle.in_gluing.specs.SideBySide.{IsThere, IsWiredWithin, StandBeside}
use Rattle.in_cells.specs.Copying.{IsCopied, name_in, number_in}
use Rattle.in_cells.specs.Laws.{moved_point, ShowsAll, HasNoAgent, AreTakenOut, LeadsIntoPart, AreEndsSplit, PartStandsBeside}
use Rattle.in_cells.proofs.Shown.{word_moved, end_moved, point_moved, end_live, NamedOr, named_or}
use Rattle.in_cells.proofs.Beside.{placed, is_placed, at_placed}
use Rattle.in_interaction.proofs.Public.{has_value}

-- a live cell has a symbol word
live_word_there : (x : State) → IsLive x → word_of x ≡ None → ⊥
live_word_there Vacant live e = live
live_word_there Leased live e = live
live_word_there (Live w es) live e = let f : Some w ≡ None = e in cc

pub live_has_word : (x : State) → IsLive x → IsSome (word_of x)
live_has_word Vacant live = absurd live
live_has_word Leased live = absurd live
live_has_word (Live w es) live = refl

-- a point with a wire is there
shown_there : (a : ArenaView) (of_a : List End) (n : Net ℕ) → ShowsAll a of_a n → (u v : Point ℕ) → n.partner u ≡ Some v → IsThere n u
shown_there a of_a n shows (Port y i) v e =
    let t = mapped point_of (end_at (state_at a y) i) v (sym (shows.shown.wires (Port y i)) ∙ e) in
    subst IsSome (sym (shows.shown.agents y)) (live_has_word (state_at a y) (end_live (state_at a y) i t.0 t.1))
shown_there a of_a n shows (Free k) v e =
    let t = mapped point_of (slice_get of_a k) v (sym (shows.shown.wires (Free k)) ∙ e) in
    subst (λ l. k < l) shows.many (slice_get_within of_a k t.0 t.1)

-- some agents of a net are taken out of its cells, and are copied to cells of their own: the rest and the part are nets in cells, too
pub record IsSplit (from left old new : ArenaView) (agents names : List CellNo) (numbers : List ℕ) (own origin : ℕ → ℕ) (place : ℕ → ℕ → ℕ) (of_from of_left of_new : List End) (ends : List (ℕ × ℕ)) (n m p : Net ℕ) : Type 0 where
  -- the cells before show the whole net
  pub shows_n : ShowsAll from of_from n
  -- each of its wires leads back
  pub back : WiresLeadBack n
  -- the cells that are left show the rest
  pub shows_m : ShowsAll left of_left m
  -- the cells with the copies show the part
  pub shows_p : ShowsAll new of_new p
  -- each agent of the part is copied to its own cell
  pub copied : IsCopied from agents numbers names old new
  -- no agent stood in the cells that the copies are put in
  pub empty : HasNoAgent old
  -- these agents are gone from the rest, and the other cells stay
  pub out : AreTakenOut agents own from left
  -- the name of a copy tells from which cell it comes
  pub from_where : (k : ℕ) (c : CellNo) → slice_get agents k ≡ Some c → origin (name_in names c.0) ≡ c.0
  -- each wire of an agent of the part stays in the part
  pub closed : (k i : ℕ) (c : CellNo) (x : End) → slice_get agents k ≡ Some c → end_at (state_at from c.0) i ≡ Some x → LeadsIntoPart agents ends x
  -- each free end is one of the rest or one of the part
  pub split : AreEndsSplit m p agents (name_in names) own (number_in numbers) place of_from of_left of_new ends

module _ (from left old new : ArenaView) (agents names : List CellNo) (numbers : List ℕ) (own origin : ℕ → ℕ) (place : ℕ → ℕ → ℕ) (of_from of_left of_new : List End) (ends : List (ℕ × ℕ)) (n m p : Net ℕ)
    (given : IsSplit from left old new agents names numbers own origin place of_from of_left of_new ends n m p) where
  open given use {shows_n, back, shows_m, shows_p, copied, empty, out, from_where, closed, split}

  abbrev name : ℕ → ℕ
  name = name_in names

  abbrev number : ℕ × ℕ → ℕ
  number q = place q.0 q.1

  abbrev kept : Point ℕ → Point ℕ
  kept = moved_point (λ z. z) own

  abbrev to : Point ℕ → Point ℕ
  to = moved_point name (number_in numbers)

  abbrev IsOne : ℕ → Type 0
  IsOne y = (k : ℕ) × (slice_get agents k ≡ Some (record { 0 = y }))

  abbrev IsNone : ℕ → Type 0
  IsNone y = (k : ℕ) → slice_get agents k ≡ Some (record { 0 = y }) → ⊥

  one_or_none : (y : ℕ) → IsOne y ⊎ IsNone y
  one_or_none y = go (named_or agents (λ z. z) y)
    where
      go : NamedOr agents (λ z. z) y → IsOne y ⊎ IsNone y
      go (inl at) = inl (at.0, at.2 ∙ ap (λ (z : ℕ). Some (record { 0 = z })) at.3)
      go (inr none) = inr (λ k s. none k (record { 0 = y }) s refl)

  -- ---- the nets that the three arenas show

  symbol_copied : (y : ℕ) → IsOne y → p.symbol (name y) ≡ n.symbol y
  symbol_copied y at = shows_p.shown.agents (name y) ∙ ap word_of (copied.each at.0 (record { 0 = y }) at.1).1 ∙ word_moved name (number_in numbers) (state_at from y) ∙ sym (shows_n.shown.agents y)

  symbol_left : (y : ℕ) → IsNone y → m.symbol y ≡ n.symbol y
  symbol_left y none = shows_m.shown.agents y ∙ ap word_of (out.others y none) ∙ word_moved (λ z. z) own (state_at from y) ∙ sym (shows_n.shown.agents y)

  wire_copied : (y i : ℕ) → IsOne y → p.partner (Port (name y) i) ≡ option_map to (n.partner (Port y i))
  wire_copied y i at =
      shows_p.shown.wires (Port (name y) i) ∙ ap (λ x. option_map point_of (end_at x i)) (copied.each at.0 (record { 0 = y }) at.1).1 ∙ ap (option_map point_of) (end_moved name (number_in numbers) (state_at from y) i)
      ∙ point_moved name (number_in numbers) (end_at (state_at from y) i) ∙ ap (option_map to) (sym (shows_n.shown.wires (Port y i)))

  wire_left : (y i : ℕ) → IsNone y → m.partner (Port y i) ≡ option_map kept (n.partner (Port y i))
  wire_left y i none =
      shows_m.shown.wires (Port y i) ∙ ap (λ x. option_map point_of (end_at x i)) (out.others y none) ∙ ap (option_map point_of) (end_moved (λ z. z) own (state_at from y) i)
      ∙ point_moved (λ z. z) own (end_at (state_at from y) i) ∙ ap (option_map kept) (sym (shows_n.shown.wires (Port y i)))

  free_copied : (k e : ℕ) → slice_get ends k ≡ Some (1, e) → p.partner (Free e) ≡ option_map to (n.partner (Free k))
  free_copied k e at = shows_p.shown.wires (Free e) ∙ ap (option_map point_of) (split.part k e at).1 ∙ point_moved name (number_in numbers) (slice_get of_from k) ∙ ap (option_map to) (sym (shows_n.shown.wires (Free k)))

  free_left : (k e : ℕ) → slice_get ends k ≡ Some (0, e) → m.partner (Free e) ≡ option_map kept (n.partner (Free k))
  free_left k e at = shows_m.shown.wires (Free e) ∙ ap (option_map point_of) (split.rest k e at).1 ∙ point_moved (λ z. z) own (slice_get of_from k) ∙ ap (option_map kept) (sym (shows_n.shown.wires (Free k)))

  -- a live cell of the rest isn't one of the agents, and each live cell of the copies is one
  left_none : (y : ℕ) → IsLive (state_at left y) → IsNone y
  left_none y live k s = subst IsLive (out.gone k (record { 0 = y }) s) live

  named_one : (z : ℕ) → IsLive (state_at new z) → (y : ℕ) × IsOne y × (name y ≡ z)
  named_one z live = go (named_or agents name z)
    where
      go : NamedOr agents name z → (y : ℕ) × IsOne y × (name y ≡ z)
      go (inl at) = (at.1.0, (at.0, at.2), at.3)
      go (inr none) = absurd (live_word_there (state_at new z) live (ap word_of (copied.others z none) ∙ empty z))

  -- ---- the points of each

  abbrev IsIn : Point ℕ → Type 0
  IsIn (Port y i) = IsOne y
  IsIn (Free f) = (e : ℕ) × (slice_get ends f ≡ Some (1, e))

  abbrev IsOut : Point ℕ → Type 0
  IsOut (Port y i) = IsNone y
  IsOut (Free f) = (e : ℕ) × (slice_get ends f ≡ Some (0, e))

  not_both : (u : Point ℕ) → IsIn u → IsOut u → ⊥
  not_both (Port y i) a b = b a.0 a.1
  not_both (Free f) a b = let same : (1, a.0) ≡ (0, b.0) = same_Some (1, a.0) (0, b.0) (sym a.1 ∙ b.1) in let z : 1 ≡ 0 = ap (λ (q : ℕ × ℕ). q.0) same in omega (arith, z)

  end_in : (x : End) → LeadsIntoPart agents ends x → IsIn (point_of x)
  end_in (Cell c i) at = at
  end_in (FreeEnd f) at = at

  in_end : (x : End) → IsIn (point_of x) → LeadsIntoPart agents ends x
  in_end (Cell c i) at = at
  in_end (FreeEnd f) at = at

  -- a wire of the net is one of the part, or one of the rest
  stays_in : (u v : Point ℕ) → IsIn u → n.partner u ≡ Some v → IsIn v
  stays_in (Port y i) v at e = let t = mapped point_of (end_at (state_at from y) i) v (sym (shows_n.shown.wires (Port y i)) ∙ e) in subst IsIn t.2 (end_in t.0 (closed at.0 i (record { 0 = y }) t.0 at.1 t.1))
  stays_in (Free f) v at e = let t = mapped point_of (slice_get of_from f) v (sym (shows_n.shown.wires (Free f)) ∙ e) in subst IsIn t.2 (end_in t.0 (split.closed f at.0 t.0 at.1 t.1))

  in_or_out : (u v : Point ℕ) → n.partner u ≡ Some v → IsIn u ⊎ IsOut u
  in_or_out (Port y i) v e = one_or_none y
  in_or_out (Free f) v e = go at.0.0 at.0.1 at.1
    where
      here : (x : End) × (slice_get of_from f ≡ Some x) × (point_of x ≡ v)
      here = mapped point_of (slice_get of_from f) v (sym (shows_n.shown.wires (Free f)) ∙ e)

      at : (q : ℕ × ℕ) × (slice_get ends f ≡ Some q)
      at = at_index ends f (let l = slice_get_within of_from f here.0 here.1 in let g = split.many in omega (arith, l, g))

      go : (i d : ℕ) → slice_get ends f ≡ Some (i, d) → IsIn (Free f) ⊎ IsOut (Free f)
      go zero d s = inr (d, s)
      go (suc zero) d s = inl (d, s)
      go (suc (suc i)) d s = absurd (let l = split.only_two f (suc (suc i)) d s in omega (arith, l))

  stays_out : (u v : Point ℕ) → IsOut u → n.partner u ≡ Some v → IsOut v
  stays_out u v at e = go (in_or_out v u (back.0 u v e))
    where
      go : IsIn v ⊎ IsOut v → IsOut v
      go (inl h) = absurd (not_both u (stays_in v u h (back.0 u v e)) at)
      go (inr h) = h

  -- under its number in its part, a point has the same end as before
  in_place : (u : Point ℕ) → IsIn u → u ≡ placed number origin 1 (to u)
  in_place (Port y i) at = ap (λ (z : ℕ). Port z i) (sym (from_where at.0 (record { 0 = y }) at.1))
  in_place (Free f) at = ap Free (sym (split.places f 1 at.0 at.1) ∙ ap (place 1) (sym (split.part f at.0 at.1).0))

  out_place : (u : Point ℕ) → IsOut u → u ≡ placed number origin 0 (kept u)
  out_place (Port y i) at = refl
  out_place (Free f) at = ap Free (sym (split.places f 0 at.0 at.1) ∙ ap (place 0) (sym (split.rest f at.0 at.1).0))

  partner_in : (u : Point ℕ) → IsIn u → p.partner (to u) ≡ option_map to (n.partner u)
  partner_in (Port y i) at = wire_copied y i at
  partner_in (Free f) at = ap (λ (z : ℕ). p.partner (Free z)) (split.part f at.0 at.1).0 ∙ free_copied f at.0 at.1

  partner_out : (u : Point ℕ) → IsOut u → m.partner (kept u) ≡ option_map kept (n.partner u)
  partner_out (Port y i) at = wire_left y i at
  partner_out (Free f) at = ap (λ (z : ℕ). m.partner (Free z)) (split.rest f at.0 at.1).0 ∙ free_left f at.0 at.1

  -- ---- wires

  abbrev IsWire : Point ℕ → Point ℕ → Type 0
  IsWire u v = (i : ℕ) × (q r : Point ℕ) × IsAtNumber number (old_and_new origin) i q u × IsAtNumber number (old_and_new origin) i r v × ((two_parts m p i).partner q ≡ Some r)

  wire_there : (u v : Point ℕ) → n.partner u ≡ Some v → IsWire u v
  wire_there u v e = go (in_or_out u v e)
    where
      go : IsIn u ⊎ IsOut u → IsWire u v
      go (inl h) = (
        1,
        to u,
        to v,
        subst (IsAtNumber number (old_and_new origin) 1 (to u)) (sym (in_place u h)) (at_placed number origin 1 (to u)),
        subst (IsAtNumber number (old_and_new origin) 1 (to v)) (sym (in_place v (stays_in u v h e))) (at_placed number origin 1 (to v)),
        partner_in u h ∙ ap (option_map to) e,
      )
      go (inr h) = (
        0,
        kept u,
        kept v,
        subst (IsAtNumber number (old_and_new origin) 0 (kept u)) (sym (out_place u h)) (at_placed number origin 0 (kept u)),
        subst (IsAtNumber number (old_and_new origin) 0 (kept v)) (sym (out_place v (stays_out u v h e))) (at_placed number origin 0 (kept v)),
        partner_out u h ∙ ap (option_map kept) e,
      )

  -- a point of a part that has a wire is one of the net, under its number
  from_in : (q r : Point ℕ) → p.partner q ≡ Some r → (u : Point ℕ) × IsIn u × (q ≡ to u)
  from_in (Port z i) r e =
      let t = mapped point_of (end_at (state_at new z) i) r (sym (shows_p.shown.wires (Port z i)) ∙ e) in
      let y = named_one z (end_live (state_at new z) i t.0 t.1) in
      (Port y.0 i, y.1, ap (λ (x : ℕ). Port x i) (sym y.2))
  from_in (Free d) r e =
      let t = mapped point_of (slice_get of_new d) r (sym (shows_p.shown.wires (Free d)) ∙ e) in
      let at = split.all 1 d (let l = slice_get_within of_new d t.0 t.1 in let g = shows_p.many in omega (arith, l, g)) in
      (Free (place 1 d), (d, at), ap Free (sym (split.part (place 1 d) d at).0))

  from_out : (q r : Point ℕ) → m.partner q ≡ Some r → (u : Point ℕ) × IsOut u × (q ≡ kept u)
  from_out (Port y i) r e =
      let t = mapped point_of (end_at (state_at left y) i) r (sym (shows_m.shown.wires (Port y i)) ∙ e) in
      (Port y i, left_none y (end_live (state_at left y) i t.0 t.1), refl)
  from_out (Free d) r e =
      let t = mapped point_of (slice_get of_left d) r (sym (shows_m.shown.wires (Free d)) ∙ e) in
      let at = split.all 0 d (let l = slice_get_within of_left d t.0 t.1 in let g = shows_m.many in omega (arith, l, g)) in
      (Free (place 0 d), (d, at), ap Free (sym (split.rest (place 0 d) d at).0))

  wire_back : (u v : Point ℕ) (i : ℕ) (q r : Point ℕ) → IsAtNumber number (old_and_new origin) i q u → IsAtNumber number (old_and_new origin) i r v → (two_parts m p i).partner q ≡ Some r → n.partner u ≡ Some v
  wire_back u v zero q r at too e =
      let x = from_out q r e in
      let t = mapped kept (n.partner x.0) r (sym (partner_out x.0 x.1) ∙ ap m.partner (sym x.2) ∙ e) in
      let one : u ≡ x.0 = is_placed number origin 0 q u at ∙ ap (placed number origin 0) x.2 ∙ sym (out_place x.0 x.1) in
      let two : v ≡ t.0 = is_placed number origin 0 r v too ∙ ap (placed number origin 0) (sym t.2) ∙ sym (out_place t.0 (stays_out x.0 t.0 x.1 t.1)) in
      ap n.partner one ∙ t.1 ∙ ap (λ (z : Point ℕ). Some z) (sym two)
  wire_back u v (suc zero) q r at too e =
      let x = from_in q r e in
      let t = mapped to (n.partner x.0) r (sym (partner_in x.0 x.1) ∙ ap p.partner (sym x.2) ∙ e) in
      let one : u ≡ x.0 = is_placed number origin 1 q u at ∙ ap (placed number origin 1) x.2 ∙ sym (in_place x.0 x.1) in
      let two : v ≡ t.0 = is_placed number origin 1 r v too ∙ ap (placed number origin 1) (sym t.2) ∙ sym (in_place t.0 (stays_in x.0 t.0 x.1 t.1)) in
      ap n.partner one ∙ t.1 ∙ ap (λ (z : Point ℕ). Some z) (sym two)
  wire_back u v (suc (suc i)) q r at too e = absurd (let f : None ≡ Some r = e in cc)

  -- ---- agents

  abbrev IsAgent : ℕ → ℕ → Type 0
  IsAgent y s = (i : ℕ) × (x : ℕ) × (old_and_new origin i x ≡ y) × ((two_parts m p i).symbol x ≡ Some s)

  agent_there : (y s : ℕ) → n.symbol y ≡ Some s → IsAgent y s
  agent_there y s e = go (one_or_none y)
    where
      go : IsOne y ⊎ IsNone y → IsAgent y s
      go (inl at) = (1, name y, from_where at.0 (record { 0 = y }) at.1, symbol_copied y at ∙ e)
      go (inr none) = (0, y, refl, symbol_left y none ∙ e)

  -- an agent of the part, and the old one
  part_agent : (z s : ℕ) → p.symbol z ≡ Some s → (y : ℕ) × IsOne y × (name y ≡ z)
  part_agent z s e = named_one z (word_live (state_at new z) s (sym (shows_p.shown.agents z) ∙ e))

  left_agent : (y s : ℕ) → m.symbol y ≡ Some s → IsNone y
  left_agent y s e = left_none y (word_live (state_at left y) s (sym (shows_m.shown.agents y) ∙ e))

  was : (z : ℕ) (a : (y : ℕ) × IsOne y × (name y ≡ z)) → origin z ≡ a.0
  was z a = ap origin (sym a.2) ∙ from_where a.1.0 (record { 0 = a.0 }) a.1.1

  agent_back : (y s i x : ℕ) → old_and_new origin i x ≡ y → (two_parts m p i).symbol x ≡ Some s → n.symbol y ≡ Some s
  agent_back y s zero x is e = ap n.symbol (sym is) ∙ sym (symbol_left x (left_agent x s e)) ∙ e
  agent_back y s (suc zero) x is e = let a = part_agent x s e in ap n.symbol (sym is ∙ was x a) ∙ sym (symbol_copied a.0 a.1) ∙ ap p.symbol a.2 ∙ e
  agent_back y s (suc (suc i)) x is e = absurd (let f : None ≡ Some s = e in cc)

  beside : IsBeside (two_parts m p) (old_and_new origin) number n
  beside = record {
    agents = λ y s. (agent_there y s, λ t. agent_back y s t.0 t.1 t.2 t.3);
    wires = λ u v. (wire_there u v, λ t. wire_back u v t.0 t.1 t.2 t.3 t.4 t.5);
  }

  kept_apart : KeepsApart (two_parts m p) (old_and_new origin)
  kept_apart zero zero x y sx sy e = (refl, e)
  kept_apart zero (suc zero) x y sx sy e =
      let s = has_value (m.symbol x) sx in let t = has_value (p.symbol y) sy in let a = part_agent y t.0 t.1 in
      absurd (left_agent x s.0 s.1 a.1.0 (a.1.1 ∙ ap (λ (z : ℕ). Some (record { 0 = z })) (sym (e ∙ was y a))))
  kept_apart (suc zero) zero x y sx sy e =
      let s = has_value (m.symbol y) sy in let t = has_value (p.symbol x) sx in let a = part_agent x t.0 t.1 in
      absurd (left_agent y s.0 s.1 a.1.0 (a.1.1 ∙ ap (λ (z : ℕ). Some (record { 0 = z })) (sym (was x a) ∙ e)))
  kept_apart (suc zero) (suc zero) x y sx sy e =
      let s = has_value (p.symbol x) sx in let t = has_value (p.symbol y) sy in let a = part_agent x s.0 s.1 in let b = part_agent y t.0 t.1 in
      (refl, sym a.2 ∙ ap name (sym (was x a) ∙ e ∙ was y b) ∙ b.2)
  kept_apart (suc (suc i)) j x y sx sy e = absurd (let f : false ≡ true = sx in cc)
  kept_apart zero (suc (suc j)) x y sx sy e = absurd (let f : false ≡ true = sy in cc)
  kept_apart (suc zero) (suc (suc j)) x y sx sy e = absurd (let f : false ≡ true = sy in cc)

  stand : map (λ t. Some t) n.free ≡ map (λ q. slice_get (two_parts m p q.0).free q.1) ends → StandBeside m p origin ends n
  stand free = record {
    number = number;
    beside = beside;
    numbered = λ k q e. split.places k q.0 q.1 e;
    all = split.all;
    free = free;
    apart = kept_apart;
  }

  -- ---- each of the two by itself

  back_left : WiresLeadBack m
  back_left = (
    λ q r e. (let w = leads q r e in ap m.partner w.5 ∙ partner_out w.1 (stays_out w.0 w.1 w.2 w.4) ∙ ap (option_map kept) (back.0 w.0 w.1 w.4) ∙ ap (λ (z : Point ℕ). Some z) (sym w.3)),
    λ q e. (
        let w = leads q q e in
        let same : w.1 ≡ w.0 = out_place w.1 (stays_out w.0 w.1 w.2 w.4) ∙ ap (placed number origin 0) (sym w.5 ∙ w.3) ∙ sym (out_place w.0 w.2) in
        back.1 w.0 (w.4 ∙ ap (λ (z : Point ℕ). Some z) same)
        ),
  )
    where
      leads : (q r : Point ℕ) → m.partner q ≡ Some r → (u v : Point ℕ) × IsOut u × (q ≡ kept u) × (n.partner u ≡ Some v) × (r ≡ kept v)
      leads q r e =
          let x = from_out q r e in
          let t = mapped kept (n.partner x.0) r (sym (partner_out x.0 x.1) ∙ ap m.partner (sym x.2) ∙ e) in
          (x.0, t.0, x.1, x.2, t.1, sym t.2)

  back_part : WiresLeadBack p
  back_part = (
    λ q r e. (let w = leads q r e in ap p.partner w.5 ∙ partner_in w.1 (stays_in w.0 w.1 w.2 w.4) ∙ ap (option_map to) (back.0 w.0 w.1 w.4) ∙ ap (λ (z : Point ℕ). Some z) (sym w.3)),
    λ q e. (
        let w = leads q q e in
        let same : w.1 ≡ w.0 = in_place w.1 (stays_in w.0 w.1 w.2 w.4) ∙ ap (placed number origin 1) (sym w.5 ∙ w.3) ∙ sym (in_place w.0 w.2) in
        back.1 w.0 (w.4 ∙ ap (λ (z : Point ℕ). Some z) same)
        ),
  )
    where
      leads : (q r : Point ℕ) → p.partner q ≡ Some r → (u v : Point ℕ) × IsIn u × (q ≡ to u) × (n.partner u ≡ Some v) × (r ≡ to v)
      leads q r e =
          let x = from_in q r e in
          let t = mapped to (n.partner x.0) r (sym (partner_in x.0 x.1) ∙ ap p.partner (sym x.2) ∙ e) in
          (x.0, t.0, x.1, x.2, t.1, sym t.2)

  left_wired : (all : List ℕ) → ((x : ℕ) → IsSome (n.symbol x) → IsAmong x all) → IsWiredWithin m
  left_wired all among = record {
    agents = all;
    all = λ x g. (let s = has_value (m.symbol x) g in among x (subst IsSome (symbol_left x (left_agent x s.0 s.1)) g));
    there = λ u v e. shown_there left of_left m shows_m u v e;
    back = back_left;
  }

  part_wired : IsWiredWithin p
  part_wired = record {
    agents = map (λ (c : CellNo). name c.0) agents;
    all = λ z g. (
        let s = has_value (p.symbol z) g in
        let a = part_agent z s.0 s.1 in
        subst (λ (x : ℕ). IsAmong x (map (λ (c : CellNo). name c.0) agents)) a.2 (in_map (λ (c : CellNo). name c.0) agents (record { 0 = a.0 }) (among_at agents a.1.0 (record { 0 = a.0 }) a.1.1))
        );
    there = λ u v e. shown_there new of_new p shows_p u v e;
    back = back_part;
  }

pub part_stands_beside : PartStandsBeside
part_stands_beside from left old new agents names numbers own origin place of_from of_left of_new ends n m p shows_n back shows_m shows_p copied empty out from_where closed split free =
    stand from left old new agents names numbers own origin place of_from of_left of_new ends n m p
    (record { shows_n = shows_n; back = back; shows_m = shows_m; shows_p = shows_p; copied = copied; empty = empty; out = out; from_where = from_where; closed = closed; split = split })
    free

-- .. and both are nets, if it is one
pub split_are_nets : (sig : Signature) (from left old new : ArenaView) (agents names : List CellNo) (numbers : List ℕ) (own origin : ℕ → ℕ) (place : ℕ → ℕ → ℕ) (of_from of_left of_new : List End) (ends : List (ℕ × ℕ)) (n m p : Net ℕ) →
    IsNet sig n → ShowsAll from of_from n → ShowsAll left of_left m → ShowsAll new of_new p →
    IsCopied from agents numbers names old new → HasNoAgent old → AreTakenOut agents own from left →
    ((k : ℕ) (c : CellNo) → slice_get agents k ≡ Some c → origin (name_in names c.0) ≡ c.0) →
    ((k i : ℕ) (c : CellNo) (x : End) → slice_get agents k ≡ Some c → end_at (state_at from c.0) i ≡ Some x → LeadsIntoPart agents ends x) →
    AreEndsSplit m p agents (name_in names) own (number_in numbers) place of_from of_left of_new ends →
    map (λ t. Some t) n.free ≡ map (λ q. slice_get (two_parts m p q.0).free q.1) ends → IsNet sig m × IsNet sig p
split_are_nets sig from left old new agents names numbers own origin place of_from of_left of_new ends n m p net shows_n shows_m shows_p copied empty out from_where closed split free =
    beside_parts_are_nets sig m p n origin ends net
    (left_wired from left old new agents names numbers own origin place of_from of_left of_new ends n m p given net.agents net.all)
    (part_wired from left old new agents names numbers own origin place of_from of_left of_new ends n m p given)
    (stand from left old new agents names numbers own origin place of_from of_left of_new ends n m p given free)
  where
    given : IsSplit from left old new agents names numbers own origin place of_from of_left of_new ends n m p
    given = record {
      shows_n = shows_n;
      back = (net.back, net.apart);
      shows_m = shows_m;
      shows_p = shows_p;
      copied = copied;
      empty = empty;
      out = out;
      from_where = from_where;
      closed = closed;
      split = split;
    }
