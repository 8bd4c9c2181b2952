-- A reducer after a wire of its net is cut.
use Rattle.std.proofs.Common.{◌≡◌, ◌≢◌, ◌<◌, ◌≤◌, ◌+◌, ℕ, zero, suc, Option, Some, None, IsSome, List, [], ◌∷◌, ◌++◌, length, map, append_assoc, take, slice_get, refl, sym, ap, subst, ◌∙◌, inl, inr, arith}
use Rattle.std.specs.Prelude.{option_map}
use Rattle.std.proofs.lemmas.List.{length-map, map-append, take-append-le}
use Rattle.std.proofs.lemmas.Option.{same_Some}
use Rattle.in_arena.specs.Arenas.{ArenaView, NoneLeased, state_at}
use Rattle.in_arena.specs.States.{State, Vacant, Leased, Live, places, end_at, word_of}
use Rattle.in_arena.specs.declared.content.End.{End}
use Rattle.in_reducer.specs.Limiting.{AreAllowed}
use Rattle.in_symbols.specs.declared.symbols.PortType.{PortType}
use Rattle.in_syntax.specs.declared.symbol_no.SymbolNo.{SymbolNo}
use Rattle.in_symbols.specs.Tables.{Tables, port_at}
use Rattle.in_net.specs.declared.nets.AgentNo.{AgentNo}
use Rattle.in_net.specs.declared.nets.Cell.{Cell}
use Rattle.in_net.specs.declared.nets.FreeEnd.{FreeEnd}
use Rattle.in_net.specs.declared.nets.Point.TheVariants as code
use Rattle.in_net.specs.ActivePairs.{IsActivePair}
use Rattle.in_net.specs.Nets.{Point, Port, Free, Net, signature_of}
use Rattle.in_net.specs.Parts.{symbol_in, partner_in}
use Rattle.in_net.proofs.Public.{map_is, symbol_of}
use Rattle.in_typing.specs.Typed.{opposite}
use Rattle.in_typing.specs.TypedNets.{type_in}
use Rattle.in_interaction.specs.Listing.{unlisted}
use Rattle.in_interaction.specs.Queues.{IsQueueOf, agents_at}
use Rattle.in_interaction.proofs.Public.{net_wire}
use Rattle.in_check.specs.Systems.{System, IsSound, system_of}
use Rattle.in_gluing.specs.Joining.{CutsWire}
use Rattle.in_cells.specs.Cells.{KeepsCells}
use Rattle.in_cells.specs.Shown.{IsShown}
use Rattle.in_cells.proofs.Public.{place_within, word_kept}
use Rattle.in_cells.specs.Cutting.{IsCutAt, Shows}
use Rattle.in_cells.proofs.Public.{stands_some}
use Rattle.in_order.specs.Leading.{IsCutOnce}
use Rattle.in_order.proofs.Public.{cut_once_is_sound}
use Rattle.in_compile.specs.Cells.{need_by}
use Rattle.in_reducer.specs.declared.body.Body.{Body}
use Rattle.in_reducer.specs.declared.body.OwnEnd.{OwnEnd}
use Rattle.in_reducer.specs.declared.body.OwnEnd.TheVariants.{Cut}
use Rattle.in_reducer.specs.Cutting.{CanCut, CutsAt, net_in}
use Rattle.in_check.specs.Programs.{Program}
use Rattle.in_reducer.specs.Inside.{IsOwnEnd, KeepsNet, declared_as, own_free, reducer_view}
use Rattle.in_reducer.specs.Machines.{MachineParts, parts_of}
use Rattle.in_reducer.specs.Reducers.{IsReducer}
use Rattle.in_reducer.specs.Standing.{IsNetIn, agent_in, agents_in, at_rest, leading_to, vacant_in}
use Rattle.in_reducer.proofs.Cells.AtRest.{rests}
use Rattle.in_reducer.proofs.Cells.Counted.{cells_at_rest}
use Rattle.in_reducer.proofs.Cells.Looked.{cell_is}
use Rattle.in_reducer.proofs.Cells.Shown.{is_over, is_shown, partner_seen, same_kinds, same_many, same_names}
use Rattle.in_reducer.proofs.Steps.StillNet.{as_many, good_of, kept_alike, kept_good, net_in as net_stays, still_unleased}

-- ---- symbols

-- the symbol of an agent is the word of its cell
pub symbol_by : (a : ArenaView) (fs : List FreeEnd) (x : ℕ) → symbol_in (unlisted (agents_in a) fs) x ≡ option_map (λ (w : ℕ). let s : SymbolNo = record { 0 = w } in s) (word_of (state_at a x))
symbol_by a fs x = ap (option_map (λ (c : Cell). c.symbol)) (cell_is a fs x) ∙ at (state_at a x)
  where
    at : (s : State) → option_map (λ (c : Cell). c.symbol) (agent_in s) ≡ option_map (λ (w : ℕ). let s : SymbolNo = record { 0 = w } in s) (word_of s)
    at Vacant = refl
    at Leased = refl
    at (Live w es) = refl

-- cells that keep their words keep their agents' symbols
pub symbols_stay : (a b : ArenaView) (fs gs : List FreeEnd) → KeepsCells a b → (x : ℕ) → symbol_in (unlisted (agents_in b) gs) x ≡ symbol_in (unlisted (agents_in a) fs) x
symbols_stay a b fs gs kept x = symbol_by b gs x ∙ ap (option_map (λ (w : ℕ). let s : SymbolNo = record { 0 = w } in s)) (word_kept a b kept x) ∙ sym (symbol_by a fs x)

there_of : (o : Option SymbolNo) (s : ℕ) → option_map (λ (s : SymbolNo). s.0) o ≡ Some s → (c : SymbolNo) × (o ≡ Some c) × (c.0 ≡ s)
there_of None s e = cc
there_of (Some c) s e = (c, refl, same_Some c.0 s e)

-- the wire at a place of an agent is cut in the cells, and the reducer's lists get two more free ends and what they lead to
pub record IsCutOff (r : Body) (c i : ℕ) (b : ArenaView) (es : List End) (own : ℕ) (ends : List End) (symbol : SymbolNo) (kind : PortType) (new : List OwnEnd) (x y : End) (list : List End) : Type 0 where
  -- each cell keeps its symbol word and its places
  pub kept : KeepsCells r.arena b
  -- the ends are as many as before
  pub long : length es ≡ length r.ends.items
  -- this is the number of free ends before
  pub is_own : own ≡ length r.free.items
  -- these are the ends before
  pub is_ends : ends ≡ r.ends.items
  -- each net that the cells show after is the net before with that wire cut
  pub cut : (w m : Net ℕ) → Shows (signature_of r.checked.now.program.tables) own r.arena ends w → IsShown b (take (own + 2) es) m → IsCutAt w c i own m
  -- this is the agent's symbol
  pub is_symbol : symbol_in (parts_of (reducer_view r)) c ≡ Some symbol
  -- this is the type of its port there
  pub is_kind : kind ≡ port_at r.checked.now.program.tables symbol.0 i
  -- the two new free ends have this type and its opposite
  pub is_new : new ≡ (r.free.items ++ Cut kind ∷ []) ++ Cut (opposite kind) ∷ []
  -- the list of ends is longer by two
  pub is_list : list ≡ (es ++ x ∷ []) ++ y ∷ []

-- ---- before

module _ (r : Body) (k : KeepsNet r) (c i : ℕ) (can : CanCut (reducer_view r) c i) where
  abbrev t : Tables
  t = r.checked.now.program.tables

  abbrev p : System
  p = system_of r.checked.now.program

  abbrev fs : List FreeEnd
  fs = own_free r

  abbrev w : Net ℕ
  w = net_in (reducer_view r)

  many : length fs ≡ length r.free.items
  many = length-map r.free.items (declared_as r.checked.now.program)

  fits : length fs ≤ length r.ends.items
  fits = let e = k.ends in let m = many in omega (arith, e, m)

  many_free : length w.free ≡ length fs
  many_free = length-map (leading_to fs r.ends.items) (λ (f : FreeEnd). f.kind) ∙ same_many fs r.ends.items fits

  pub shows : (own : ℕ) → own ≡ length r.free.items → (ends : List End) → ends ≡ r.ends.items → Shows (signature_of t) own r.arena ends w
  shows own is_own ends is_ends = record {
    net = k.reducer.net.sound.net;
    many = (let m = many in let n = many_free in omega (arith, is_own, m, n));
    shown = subst (λ (n : ℕ). IsShown r.arena (take n ends) w) (many ∙ sym is_own) (subst (λ (es : List End). IsShown r.arena (take (length fs) es) w) (sym is_ends) (is_shown r.arena fs r.ends.items));
  }

  pub place_there : i < places (state_at r.arena c)
  place_there =
      let s = stands_some (end_at (state_at r.arena c) i) can.other (sym (partner_seen r.arena fs r.ends.items (Port c i)) ∙ can.wire) in
      place_within (state_at r.arena c) i s.0 s.1

  symbol_here : (s : ℕ) × (w.symbol c ≡ Some s)
  symbol_here = let s = symbol_of (signature_of t) (w.symbol c) i (k.reducer.net.sound.net.points (Port c i) can.other can.wire) in (s.0, s.1)

  pub agent_there : IsSome (symbol_in (parts_of (reducer_view r)) c)
  agent_there = let s = there_of (symbol_in (parts_of (reducer_view r)) c) symbol_here.0 symbol_here.1 in subst IsSome (sym s.1) refl

  -- a point of a wire has a type
  typed_point : (u v : Point ℕ) → w.partner u ≡ Some v → (s : PortType) × (type_in p.symbols w u ≡ Some s)
  typed_point (Port y j) v h = let s = symbol_of (signature_of t) (w.symbol y) j (k.reducer.net.sound.net.points (Port y j) v h) in (port_at t s.0 j, at (w.symbol y) s.0 s.1)
    where
      at : (o : Option ℕ) (s : ℕ) → o ≡ Some s → elim o [ None ↦ None | Some s ↦ Some (port_at t s j) ] ≡ Some (port_at t s j)
      at None s e = cc
      at (Some x) s e = ap (λ (z : ℕ). Some (port_at t z j)) (same_Some x s e)
  typed_point (Free n) v h = at w.free n (k.reducer.net.sound.net.points (Free n) v h)
    where
      at : (ts : List PortType) (n : ℕ) → n < length ts → (s : PortType) × (elim (slice_get ts n) [ None ↦ None | Some t ↦ Some (opposite t) ] ≡ Some s)
      at [] n l = absurd (omega (arith, l))
      at (x ∷ ts) zero l = (opposite x, refl)
      at (x ∷ ts) (suc n) l = at ts n (omega (arith, l))

  -- ---- after

  module _ (b : ArenaView) (es : List End) (own : ℕ) (ends : List End) (symbol : SymbolNo) (kind : PortType) (new : List OwnEnd) (x y : End) (list : List End) (given : IsCutOff r c i b es own ends symbol kind new x y list) where
    open given use {kept, long, is_own, is_ends, cut, is_symbol, is_kind, is_new, is_list}

    abbrev gs : List FreeEnd
    gs = map (declared_as r.checked.now.program) new

    abbrev pub after : MachineParts
    after = record { program = r.checked.now.program; agents = agents_in b; free = leading_to gs list; queue = r.queue.items; vacant = vacant_in (at_rest b) }

    abbrev m : Net ℕ
    m = net_in after

    abbrev ends_of : PortType → FreeEnd
    ends_of z = declared_as r.checked.now.program (Cut z)

    all_free : gs ≡ fs ++ (ends_of kind ∷ ends_of (opposite kind) ∷ [])
    all_free = ap (map (declared_as r.checked.now.program)) (is_new ∙ append_assoc r.free.items (Cut kind ∷ []) (Cut (opposite kind) ∷ [])) ∙ map-append (declared_as r.checked.now.program) r.free.items (Cut kind ∷ Cut (opposite kind) ∷ [])

    two_more : length gs ≡ own + 2
    two_more = let e = ap length all_free ∙ length_two fs (ends_of kind) (ends_of (opposite kind)) in let n = many in omega (arith, e, n, is_own)
      where
        length_two : (zs : List FreeEnd) (u v : FreeEnd) → length (zs ++ (u ∷ v ∷ [])) ≡ length zs + 2
        length_two [] u v = refl
        length_two (z ∷ zs) u v = let e = length_two zs u v in omega (arith, e)

    room : own + 2 ≤ length es
    room = let e = k.ends in omega (arith, e, long, is_own)

    in_list : take (own + 2) list ≡ take (own + 2) es
    in_list = ap (take (own + 2)) (is_list ∙ append_assoc es (x ∷ []) (y ∷ [])) ∙ take-append-le (own + 2) es (x ∷ y ∷ []) room

    listed : length gs ≤ length list
    listed = let e = ap length (is_list ∙ append_assoc es (x ∷ []) (y ∷ [])) ∙ longer es x y in let n = two_more in let l = room in omega (arith, e, n, l)
      where
        longer : (zs : List End) (u v : End) → length (zs ++ (u ∷ v ∷ [])) ≡ length zs + 2
        longer [] u v = refl
        longer (z ∷ zs) u v = let e = longer zs u v in omega (arith, e)

    is_cut : IsCutAt w c i own m
    is_cut = cut w m (shows own is_own ends is_ends) (subst (λ (es : List End). IsShown b es m) (ap (λ (n : ℕ). take n list) two_more ∙ in_list) (is_shown b gs list))

    same_other : is_cut.other ≡ can.other
    same_other = same_Some is_cut.other can.other (sym is_cut.wire ∙ can.wire)

    first_type : type_in p.symbols w (Port c i) ≡ Some kind
    first_type =
        let s : w.symbol c ≡ Some symbol.0 = ap (option_map (λ (s : SymbolNo). s.0)) is_symbol in
        at (w.symbol c) s
      where
        at : (o : Option ℕ) → o ≡ Some symbol.0 → elim o [ None ↦ None | Some s ↦ Some (port_at t s i) ] ≡ Some kind
        at None e = cc
        at (Some z) e = ap (λ (z : ℕ). Some (port_at t z i)) (same_Some z symbol.0 e) ∙ ap (λ (z : PortType). Some z) (sym is_kind)

    second_type : type_in p.symbols w is_cut.other ≡ Some (opposite kind)
    second_type =
        let back = k.reducer.net.sound.net.back (Port c i) is_cut.other is_cut.wire in
        let s = typed_point is_cut.other (Port c i) back in
        s.1 ∙ ap (λ (z : PortType). Some z) (k.reducer.net.sound.typed (Port c i) is_cut.other kind s.0 is_cut.wire first_type s.1)

    frees : m.free ≡ w.free ++ (kind ∷ opposite kind ∷ [])
    frees = same_kinds gs list listed ∙ ap (map (λ (f : FreeEnd). f.kind)) all_free ∙ map-append (λ (f : FreeEnd). f.kind) fs (ends_of kind ∷ ends_of (opposite kind) ∷ []) ∙ ap (λ (ts : List PortType). ts ++ (kind ∷ opposite kind ∷ [])) (sym (same_kinds fs r.ends.items fits))

    pub once : IsCutOnce p w m
    once = record {
      one = Port c i;
      other = is_cut.other;
      wire = is_cut.wire;
      first = kind;
      second = opposite kind;
      type_one = first_type;
      type_other = second_type;
      free = frees;
      cut = subst (λ (n : ℕ). CutsWire w (Port c i) is_cut.other n (suc n) m) (let n = many in let f = many_free in let e : own ≡ length w.free = omega (arith, n, f, is_own) in e) is_cut.cut;
    }

    sound : IsSound p m
    sound = cut_once_is_sound p w m k.reducer.net.sound once

    -- ---- the queue

    -- a wire between principal ports is not the one that is cut
    uncut : (a d : ℕ) → w.partner (Port a 0) ≡ Some (Port d 0) → (Port a 0 ≢ Port c i) × (Port a 0 ≢ is_cut.other)
    uncut a d h = (first, second)
      where
        waits : i ≡ 0 → (d : ℕ) → is_cut.other ≢ Port d 0
        waits first d e = can.waits first d (sym same_other ∙ e)

        place_of : (z : ℕ) → ◌≡◌ {A = Point ℕ} (Port z 0) (Port c i) → i ≡ 0
        place_of z e = cc

        first : Port a 0 ≢ Port c i
        first e = waits (place_of a e) d (same_Some is_cut.other (Port d 0) (sym is_cut.wire ∙ ap w.partner (sym e) ∙ h))

        second : Port a 0 ≢ is_cut.other
        second e =
            let back = k.reducer.net.sound.net.back (Port c i) is_cut.other is_cut.wire in
            let end : ◌≡◌ {A = Point ℕ} (Port d 0) (Port c i) = same_Some (Port d 0) (Port c i) (sym h ∙ ap w.partner e ∙ back) in
            waits (place_of d end) a (sym e)

    forth : (a d : ℕ) → w.partner (Port a 0) ≡ Some (Port d 0) → m.partner (Port a 0) ≡ Some (Port d 0)
    forth a d h = let u = uncut a d h in (is_cut.cut.wires (Port a 0) (Port d 0)).1 (inl (u.0, u.1, h))

    back : (a d : ℕ) → m.partner (Port a 0) ≡ Some (Port d 0) → w.partner (Port a 0) ≡ Some (Port d 0)
    back a d h = elim ((is_cut.cut.wires (Port a 0) (Port d 0)).0 h) [
      | inl s ↦ s.2
      | inr s ↦ elim s [
        | inl e ↦ (let f : Port d 0 ≡ Free own = e.1 in cc)
        | inr s ↦ elim s [
          | inl e ↦ (let f : Port a 0 ≡ Free own = e.0 in cc)
          | inr s ↦ elim s [
            | inl e ↦ (let f : Port d 0 ≡ Free (suc own) = e.1 in cc)
            | inr e ↦ (let f : Port a 0 ≡ Free (suc own) = e.0 in cc)
          ]
        ]
      ]
    ]

    pair_forth : (q : AgentNo × AgentNo) → IsActivePair t (parts_of (reducer_view r)) q → IsActivePair t (parts_of after) q
    pair_forth q h = record {
      active = map_is (partner_in (parts_of after) (code.Port q.0 0)) (Port q.1.0 0) (forth q.0.0 q.1.0 (net_wire (parts_of (reducer_view r)) (code.Port q.0 0) (code.Port q.1 0) h.active));
      first = h.first;
      second = h.second;
      one = symbols_stay r.arena b (leading_to fs r.ends.items) (leading_to gs list) kept q.0.0 ∙ h.one;
      two = symbols_stay r.arena b (leading_to fs r.ends.items) (leading_to gs list) kept q.1.0 ∙ h.two;
      order = h.order;
    }

    pair_back : (q : AgentNo × AgentNo) → IsActivePair t (parts_of after) q → IsActivePair t (parts_of (reducer_view r)) q
    pair_back q h = record {
      active = map_is (partner_in (parts_of (reducer_view r)) (code.Port q.0 0)) (Port q.1.0 0) (back q.0.0 q.1.0 (net_wire (parts_of after) (code.Port q.0 0) (code.Port q.1 0) h.active));
      first = h.first;
      second = h.second;
      one = sym (symbols_stay r.arena b (leading_to fs r.ends.items) (leading_to gs list) kept q.0.0) ∙ h.one;
      two = sym (symbols_stay r.arena b (leading_to fs r.ends.items) (leading_to gs list) kept q.1.0) ∙ h.two;
      order = h.order;
    }

    is_queue : IsQueueOf t (parts_of after) r.queue.items
    is_queue = record {
      pairs = λ j q e. pair_forth (agents_at q) (k.reducer.queue.pairs j q e);
      all = λ q h. k.reducer.queue.all q (pair_back q h);
      once = k.reducer.queue.once;
    }

    -- ---- all

    pub still_net : IsNetIn t (at_rest b)
    still_net = net_stays t r.arena b k.net.all kept.cells (as_many r.arena b kept) (kept_good r.arena b kept t r.arena (good_of t r.arena k.net))

    pub is_reducer : IsReducer after
    is_reducer = record {
      accepted = k.reducer.accepted;
      net = record { sound = sound; over = is_over t b gs list sound.net sound.within };
      queue = is_queue;
      cells = (b.cells, subst AreAllowed (sym kept.cells) k.few, λ d. cells_at_rest t b still_net d);
    }

    pub cuts : NoneLeased r.arena → CutsAt (reducer_view r) c i after
    unfolding once
    cuts none = record {
      program = refl;
      cut = once;
      here = refl;
      names = same_names gs list listed ∙ ap (map (λ (f : FreeEnd). f.name)) all_free ∙ map-append (λ (f : FreeEnd). f.name) fs (ends_of kind ∷ ends_of (opposite kind) ∷ []) ∙ ap (λ (ns : List (List ℕ)). ns ++ ([] ∷ [] ∷ [])) (sym (same_names fs r.ends.items fits));
      queue = refl;
      vacant = ap vacant_in (rests b (still_unleased r.arena b (kept_alike r.arena b kept) none)) ∙ (λ j. need_by (λ c. kept.free c j)) ∙ ap vacant_in (sym (rests r.arena none));
    }

-- the free ends are the program's, or cut ones, as before
pub own_ends : (p : Program) (xs : List OwnEnd) (a b : PortType) (new : List OwnEnd) → new ≡ (xs ++ Cut a ∷ []) ++ Cut b ∷ [] → ((n : ℕ) (e : OwnEnd) → slice_get xs n ≡ Some e → IsOwnEnd p e) → (n : ℕ) (e : OwnEnd) → slice_get new n ≡ Some e → IsOwnEnd p e
own_ends p xs a b new is own n e at = go xs own n (ap (λ (z : List OwnEnd). slice_get z n) (sym (is ∙ append_assoc xs (Cut a ∷ []) (Cut b ∷ []))) ∙ at)
  where
    cut : (z : PortType) → Some (Cut z) ≡ Some e → IsOwnEnd p e
    cut z h = subst (IsOwnEnd p) (same_Some (Cut z) e h) tt

    go : (xs : List OwnEnd) → ((n : ℕ) (e : OwnEnd) → slice_get xs n ≡ Some e → IsOwnEnd p e) → (n : ℕ) → slice_get (xs ++ (Cut a ∷ Cut b ∷ [])) n ≡ Some e → IsOwnEnd p e
    go [] own zero h = cut a h
    go [] own (suc zero) h = cut b h
    go [] own (suc (suc n)) h = cc
    go (x ∷ xs) own zero h = own 0 e h
    go (x ∷ xs) own (suc n) h = go xs (λ j f g. own (suc j) f g) n h

pub two_longer : {X : Type 0} (xs : List X) (a b : X) (new : List X) → new ≡ (xs ++ a ∷ []) ++ b ∷ [] → length new ≡ length xs + 2
two_longer xs a b new is = let e = ap length (is ∙ append_assoc xs (a ∷ []) (b ∷ [])) ∙ go xs in omega (arith, e)
  where
    go : (zs : List _) → length (zs ++ (a ∷ b ∷ [])) ≡ length zs + 2
    go [] = refl
    go (z ∷ zs) = let e = go zs in omega (arith, e)

-- as many free ends as contracts see
pub free_many : (r : Body) → KeepsNet r → length (reducer_view r).free ≡ length r.free.items
free_many r k = (let m = length-map r.free.items (declared_as r.checked.now.program) in let e = same_many (own_free r) r.ends.items (let f = k.ends in omega (arith, f, m)) in omega (arith, e, m))
