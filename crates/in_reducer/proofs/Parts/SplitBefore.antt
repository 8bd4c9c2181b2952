-- A reducer, and agents of its net that can be split off.
use Rattle.std.proofs.Common.{◌≡◌, ◌⊎◌, inl, inr, ◌<◌, ◌≤◌, ◌+◌, ℕ, suc, Some, None, List, length, take, slice_get, refl, sym, ap, subst, ◌∙◌, arith}
use Rattle.std.specs.Prelude.{option_map, IsSome}
use Rattle.std.proofs.lemmas.Bool.{cases_lt}
use Rattle.std.proofs.lemmas.List.{length-map, length-take-le}
use Rattle.std.proofs.lemmas.List.Sums.{count_by-le-length}
use Rattle.in_arena.specs.Arenas.{ArenaView, free_of, state_at}
use Rattle.in_arena.specs.Classes.{holds}
use Rattle.in_arena.specs.States.{Vacant, end_at, places, word_of}
use Rattle.in_arena.specs.declared.content.CellClass.{CellClass}
use Rattle.in_arena.specs.declared.content.CellNo.{CellNo}
use Rattle.in_arena.specs.declared.content.End.{End}
use Rattle.in_arena.specs.declared.content.End.TheVariants as end
use Rattle.in_arena.proofs.Public.{state_inside, word_live}
use Rattle.in_symbols.specs.Tables.{Tables, arity_of}
use Rattle.in_syntax.specs.declared.symbol_no.SymbolNo.{SymbolNo}
use Rattle.in_net.specs.declared.nets.FreeEnd.{FreeEnd}
use Rattle.in_net.specs.Nets.{Port, Free, Net, signature_of}
use Rattle.in_net.specs.Parts.{symbol_in}
use Rattle.in_net.proofs.Public.{symbol_of}
use Rattle.in_interaction.proofs.Public.{has_value, symbol_number}
use Rattle.in_gluing.specs.Joining.{WiresLeadBack}
use Rattle.in_gluing.proofs.Public.{mapped}
use Rattle.in_cells.specs.Shown.{point_of}
use Rattle.in_cells.specs.Copying.{ArePart, AreClosed, HasCellsFor, IsEndWithin, LeadsInto, is_for}
use Rattle.in_cells.specs.Laws.{LeadsIntoPart, ShowsAll}
use Rattle.in_cells.specs.TakingOut.{AreClassed, AreLedTo}
use Rattle.in_cells.proofs.Public.{led_to}
use Rattle.in_reducer.specs.declared.body.Body.{Body}
use Rattle.in_reducer.specs.Cutting.{net_in}
use Rattle.in_reducer.specs.Inside.{KeepsNet, declared_as, own_free, reducer_view}
use Rattle.in_reducer.specs.Machines.{AreNumbersBelow, parts_of}
use Rattle.in_reducer.specs.Parting.{CanSplit, IsInPart, ends_of_two}
use Rattle.in_reducer.specs.Standing.{leading_to}
use Rattle.in_reducer.proofs.Cells.Shown.{is_shown, partner_seen, places_seen, same_many, symbol_seen}
use Rattle.in_reducer.proofs.Steps.StillNet.{good_of}
use Rattle.in_reducer.proofs.Parts.TwoEnds.{first_of_two}
use Rattle.in_compile.proofs.Public.{held}

module _ (r : Body) (k : KeepsNet r) where
  abbrev t : Tables
  t = r.checked.now.program.tables

  abbrev fs : List FreeEnd
  fs = own_free r

  abbrev es : List End
  es = r.ends.items

  abbrev m : Net ℕ
  m = net_in (reducer_view r)

  -- the ends to which its free ends lead
  abbrev pub own_ends : List End
  own_ends = take (length (own_free r)) r.ends.items

  pub many : length fs ≡ length r.free.items
  many = length-map r.free.items (declared_as r.checked.now.program)

  pub fits : length fs ≤ length es
  fits = let e = k.ends in let f = many in omega (arith, e, f)

  many_free : length m.free ≡ length fs
  many_free = length-map (leading_to fs es) (λ (f : FreeEnd). f.kind) ∙ same_many fs es fits

  pub many_ends : length own_ends ≡ length fs
  many_ends = length-take-le (length fs) es fits

  pub shows : ShowsAll r.arena own_ends m
  shows = record { shown = is_shown r.arena fs es; many = many_ends ∙ sym many_free }

  pub back : WiresLeadBack m
  back = (k.reducer.net.sound.net.back, k.reducer.net.sound.net.apart)

  pub places_here : (y s : ℕ) → word_of (state_at r.arena y) ≡ Some s → places (state_at r.arena y) ≡ suc (arity_of t s)
  places_here y s e = places_seen t r.arena fs es k.reducer.net.sound.net k.reducer.net.sound.within y s e

  -- an agent is in one of the cells
  symbol_inside : (y s : ℕ) → m.symbol y ≡ Some s → y < length r.arena.states
  symbol_inside y s e = state_inside r.arena y (λ f. (let g : None ≡ Some s = sym (ap word_of f) ∙ sym (symbol_seen r.arena fs es y) ∙ e in cc))

  pub below_all : AreNumbersBelow (reducer_view r) (length r.arena.states)
  below_all y some = let s = has_value (symbol_in (parts_of (reducer_view r)) y) some in symbol_inside y s.0.0 (symbol_number (symbol_in (parts_of (reducer_view r)) y) s.0 s.1)

  -- .. and in none from this number on, if all cells from there on are free
  pub below_bound : (b : ℕ) → ((n : ℕ) → b ≤ n → n < length r.arena.states → state_at r.arena n ≡ Vacant) → AreNumbersBelow (reducer_view r) b
  below_bound b rest y some = go (cases_lt y b)
    where
      go : (y < b) ⊎ (b ≤ y) → y < b
      go (inl low) = low
      go (inr high) =
          let s = has_value (symbol_in (parts_of (reducer_view r)) y) some in
          let word = symbol_number (symbol_in (parts_of (reducer_view r)) y) s.0 s.1 in
          let f : None ≡ Some s.0.0 = sym (ap word_of (rest y high (below_all y some))) ∙ sym (symbol_seen r.arena fs es y) ∙ word in
          absurd (let g : None ≡ Some s.0.0 = f in cc)

  module _ (most : ℕ) (below : AreNumbersBelow (reducer_view r) most) where
    pub symbol_below : (y s : ℕ) → m.symbol y ≡ Some s → y < most
    symbol_below y s e = let q = mapped (λ (s : SymbolNo). s.0) (symbol_in (parts_of (reducer_view r)) y) s e in below y (subst IsSome (sym q.1) refl)

    -- a free end leads within the net
    pub end_within : (j : ℕ) (e : End) → slice_get own_ends j ≡ Some e → IsEndWithin most (length r.free.items) e
    end_within j e at = go e (back.0 (Free j) (point_of e) (partner_seen r.arena fs es (Free j) ∙ ap (option_map point_of) at))
      where
        go : (e : End) → m.partner (point_of e) ≡ Some (Free j) → IsEndWithin most (length r.free.items) e
        go (end.Cell c i) h = let s = symbol_of (signature_of t) (m.symbol c.0) i (k.reducer.net.sound.net.points (Port c.0 i) (Free j) h) in symbol_below c.0 s.0 s.1
        go (end.Free n) h =
            let low : n < length m.free = k.reducer.net.sound.net.points (Free n) (Free j) h in
            let e = many_free in
            let f = many in
            let z : n < length r.free.items = omega (arith, low, e, f) in
            z

    -- .. and a pair is of agents that are there
    pub pair_within : (j : ℕ) (q : ℕ × ℕ) → slice_get r.queue.items j ≡ Some q → (q.0 < most) × (q.1 < most)
    pair_within j q at =
        let h = k.reducer.queue.pairs j q at in
        (below q.0 (subst IsSome (sym h.one) refl), below q.1 (subst IsSome (sym h.two) refl))

  module _ (agents : List CellNo) (own cuts : ℕ) (can : CanSplit (reducer_view r) agents own cuts) where
    pub whole : length fs ≡ own + (cuts + cuts)
    whole = sym (same_many fs es fits) ∙ can.many

    -- an agent has a word
    word_there : (j : ℕ) (c : CellNo) → slice_get agents j ≡ Some c → (s : ℕ) × (word_of (state_at r.arena c.0) ≡ Some s)
    word_there j c s = let h = has_value (m.symbol c.0) (can.there j c s) in (h.0, sym (symbol_seen r.arena fs es c.0) ∙ h.1)

    pub part : ArePart r.arena agents
    part = record { live = λ j c s. (let w = word_there j c s in word_live (state_at r.arena c.0) w.0 w.1); once = can.once }

    pub leads_point : (x : End) → IsInPart agents own cuts (point_of x) → LeadsIntoPart agents (ends_of_two own cuts) x
    leads_point (end.Cell c i) h = h
    leads_point (end.Free f) h = (h.0, ap (slice_get (ends_of_two own cuts)) h.2 ∙ first_of_two own cuts h.0 h.1)

    in_part : (j i : ℕ) (c : CellNo) (x : End) → slice_get agents j ≡ Some c → end_at (state_at r.arena c.0) i ≡ Some x → IsInPart agents own cuts (point_of x)
    in_part j i c x s at = can.closed j i c (point_of x) s (partner_seen r.arena fs es (Port c.0 i) ∙ ap (option_map point_of) at)

    pub leads : (j i : ℕ) (c : CellNo) (x : End) → slice_get agents j ≡ Some c → end_at (state_at r.arena c.0) i ≡ Some x → LeadsIntoPart agents (ends_of_two own cuts) x
    leads j i c x s at = leads_point x (in_part j i c x s at)

    pub closed : (n : ℕ) → n ≡ own + (cuts + cuts) → AreClosed r.arena agents n
    closed n is j i c x s at = go x (in_part j i c x s at)
      where
        go : (x : End) → IsInPart agents own cuts (point_of x) → LeadsInto agents n x
        go (end.Cell d i) h = h
        go (end.Free f) h = let low = h.1 in let at = h.2 in let z : f < n = omega (arith, is, low, at) in z

    pub classed : AreClassed r.arena agents
    classed j c d s in_class =
        let w = word_there j c s in
        let e = places_here c.0 w.0 w.1 in
        let many : arity_of t w.0 + 1 ≡ places (state_at r.arena c.0) = omega (arith, e) in
        held d (places (state_at r.arena c.0)) (ap (holds d) (sym many) ∙ good_of t r.arena k.net c.0 d w.0 in_class w.1)

    pub led : (ends : List End) → ends ≡ take (own + (cuts + cuts)) es → AreLedTo r.arena ends
    led ends is = subst (AreLedTo r.arena) (ap (λ (z : ℕ). take z es) whole ∙ sym is) (led_to r.arena own_ends m shows.shown back)

    -- an empty arena has cells for as many agents
    pub cells_for : (b : ArenaView) (size : ℕ) → ((d : CellClass) → free_of b d ≡ size) → length agents ≤ size → HasCellsFor r.arena agents b
    cells_for b size free few d = let e = free d in let f = count_by-le-length (is_for r.arena d) agents in omega (arith, e, f, few)
