-- A reducer after its last two free ends are joined.
use Rattle.std.proofs.Common.{◌≡◌, ◌⊎◌, ◌<◌, ◌≤◌, ◌+◌, ℕ, zero, suc, Some, List, [], ◌∷◌, ◌++◌, length, length-append, map, take, reverse, slice_get, refl, sym, ap, subst, ◌∙◌, inl, inr, arith}
use Rattle.std.specs.Prelude.{option_map}
use Rattle.std.proofs.lemmas.List.{append-nil, length-map, map-append, take-map}
use Rattle.std.proofs.lemmas.Option.{same_Some}
use Rattle.in_arena.proofs.Public.{counts_alike}
use Rattle.in_arena.specs.Arenas.{ArenaView, NoneLeased, state_at}
use Rattle.in_arena.specs.Classes.{all_of}
use Rattle.in_arena.specs.States.{word_of}
use Rattle.in_arena.specs.declared.content.End.{End}
use Rattle.in_reducer.specs.Limiting.{AreAllowed}
use Rattle.in_symbols.specs.declared.symbols.PortType.{PortType}
use Rattle.in_syntax.specs.declared.symbol_no.SymbolNo.{SymbolNo}
use Rattle.in_symbols.specs.Tables.{Tables, IsSymbol}
use Rattle.in_net.specs.declared.nets.AgentNo.{AgentNo}
use Rattle.in_net.specs.declared.nets.FreeEnd.{FreeEnd}
use Rattle.in_net.specs.declared.nets.Point.TheVariants as code
use Rattle.in_net.specs.ActivePairs.{IsActivePair, StandsFirst}
use Rattle.in_net.specs.Nets.{Port, Free, Net, net_of, signature_of}
use Rattle.in_net.specs.Parts.{symbol_in, partner_in}
use Rattle.in_net.proofs.Public.{map_is, port_agent}
use Rattle.in_interaction.specs.Queues.{IsQueueOf, agents_at, numbers_of}
use Rattle.in_interaction.proofs.Public.{apart, back_in, net_wire}
use Rattle.in_check.specs.Systems.{System, IsSound, system_of}
use Rattle.in_gluing.specs.Joining.{JoinsEnds}
use Rattle.in_cells.specs.Cells.{HasSymbols, KeepsCells}
use Rattle.in_cells.specs.Pairs.{AddsPair, IsNoPair, IsPairOf}
use Rattle.in_cells.specs.Shown.{IsShown}
use Rattle.in_cells.specs.Shown as shown_point
use Rattle.in_cells.proofs.Public.{take_at, writes_end_point as end_point, point_end}
use Rattle.in_cells.specs.Cutting.{Shows}
use Rattle.in_order.specs.Leading.{IsJoinedOnce}
use Rattle.in_compile.specs.Cells.{need_by}
use Rattle.in_reducer.specs.declared.body.Body.{Body}
use Rattle.in_reducer.specs.declared.body.OwnEnd.{OwnEnd}
use Rattle.in_reducer.specs.Cutting.{CanJoin, JoinsLast, net_in}
use Rattle.in_reducer.specs.Inside.{IsOwnEnd, KeepsNet, declared_as, own_free, reducer_view}
use Rattle.in_reducer.specs.Machines.{MachineParts, parts_of}
use Rattle.in_reducer.specs.Reducers.{IsReducer}
use Rattle.in_reducer.specs.Standing.{IsNetIn, agents_in, at_rest, leading_to, vacant_in}
use Rattle.in_reducer.proofs.Cells.AtRest.{rests}
use Rattle.in_reducer.proofs.Cells.Counted.{cells_at_rest}
use Rattle.in_reducer.proofs.Cuts.CutOff.{symbol_by, symbols_stay}
use Rattle.in_reducer.proofs.Pairs.Queues.{short_queue}
use Rattle.in_reducer.proofs.Cells.Shown.{is_over, is_shown, partner_seen, same_kinds, same_many, same_names, seen, symbol_seen}
use Rattle.in_reducer.proofs.Steps.StillNet.{as_many, good_of, kept_alike, kept_good, net_in as net_stays, still_unleased}
use Rattle.in_base.proofs.Places.{last_at}
use Rattle.in_base.proofs.Each.{at_index}

-- ---- lists

-- all elements except the last two, and these
pub last_two : {X : Type 0} (xs : List X) (n : ℕ) → length xs ≡ n + 2 → (x y : X) × (xs ≡ take n xs ++ (x ∷ y ∷ []))
last_two [] n e = absurd (omega (arith, e))
last_two (x ∷ []) zero e = absurd (omega (arith, e))
last_two (x ∷ y ∷ []) zero e = (x, y, refl)
last_two (x ∷ y ∷ z ∷ xs) zero e = absurd (omega (arith, e))
last_two (x ∷ xs) (suc n) e = let r = last_two xs n (omega (arith, e)) in (r.0, r.1, ap (λ zs. x ∷ zs) r.2)

-- one more at the end
snoc_at : {X : Type 0} (xs : List X) (x : X) (j : ℕ) (z : X) → slice_get (xs ++ x ∷ []) j ≡ Some z → (slice_get xs j ≡ Some z) ⊎ ((j ≡ length xs) × (x ≡ z))
snoc_at [] x zero z e = inr (refl, same_Some x z e)
snoc_at [] x (suc j) z e = cc
snoc_at (y ∷ xs) x zero z e = inl e
snoc_at (y ∷ xs) x (suc j) z e = elim (snoc_at xs x j z e) [ inl h ↦ inl h | inr h ↦ inr ((let a = h.0 in omega (arith, a)), h.1) ]

snoc_front : {X : Type 0} (xs : List X) (x : X) (j : ℕ) (z : X) → slice_get xs j ≡ Some z → slice_get (xs ++ x ∷ []) j ≡ Some z
snoc_front [] x j z e = cc
snoc_front (y ∷ xs) x zero z e = e
snoc_front (y ∷ xs) x (suc j) z e = snoc_front xs x j z e

same_agent : (x y : ℕ) → shown_point.end_of (Port x 0) ≡ shown_point.end_of (Port y 0) → x ≡ y
same_agent x y e = port_agent x y 0 0 (sym (end_point (Port x 0)) ∙ ap shown_point.point_of e ∙ end_point (Port y 0))

module _ (r : Body) (k : KeepsNet r) (two : 2 ≤ length r.free.items) (own : ℕ) (is_own : own + 2 ≡ length r.free.items) where
  abbrev t : Tables
  t = r.checked.now.program.tables

  abbrev p : System
  p = system_of r.checked.now.program

  abbrev fs : List FreeEnd
  fs = own_free r

  abbrev es0 : List End
  es0 = r.ends.items

  abbrev m : Net ℕ
  m = net_in (reducer_view r)

  many : length fs ≡ own + 2
  many = length-map r.free.items (declared_as r.checked.now.program) ∙ sym is_own

  fits : length fs ≤ length r.ends.items
  fits = let e = k.ends in let m = many in omega (arith, e, m, is_own)

  many_free : length m.free ≡ length fs
  many_free = length-map (leading_to fs r.ends.items) (λ (f : FreeEnd). f.kind) ∙ same_many fs r.ends.items fits

  pub shows : (ends : List End) → ends ≡ r.ends.items → Shows (signature_of t) (own + 2) r.arena ends m
  shows ends is_ends = record {
    net = k.reducer.net.sound.net;
    many = (let m = many in let n = many_free in omega (arith, m, n));
    shown = subst (λ (n : ℕ). IsShown r.arena (take n ends) m) many (subst (λ (es : List End). IsShown r.arena (take (length fs) es) m) (sym is_ends) (is_shown r.arena fs r.ends.items));
  }

  -- the ends at the two free ends
  pub first_end : (e : End) × (slice_get es0 own ≡ Some e)
  first_end = at_index es0 own (let e = k.ends in omega (arith, e, is_own))

  pub last_end : (e : End) × (slice_get es0 (suc own) ≡ Some e)
  last_end = at_index es0 (suc own) (let e = k.ends in omega (arith, e, is_own))

  pub has_symbols : (tables : Tables) → tables ≡ t → HasSymbols tables r.arena
  has_symbols tables same y s e = subst (λ (u : Tables). IsSymbol u s) (sym same) (k.reducer.net.sound.within y s (symbol_seen r.arena fs es0 y ∙ e))

  -- the partner of a free end is the end at its number
  stands : (j : ℕ) (e : End) → j < own + 2 → slice_get es0 j ≡ Some e → m.partner (Free j) ≡ Some (shown_point.point_of e)
  stands j e low at = partner_seen r.arena fs es0 (Free j) ∙ ap (option_map shown_point.point_of) (take_at (length fs) j es0 (let n = many in omega (arith, low, n)) ∙ at)

  -- ---- after

  module _ (b : ArenaView) (es : List End) (kept : KeepsCells r.arena b) (long : length es ≡ length r.ends.items) (joins : (n : Net ℕ) → IsShown b (take own es) n → JoinsEnds m own (suc own) n) (can : CanJoin (reducer_view r)) (new : List OwnEnd) (is_new : new ≡ take own r.free.items) where
    abbrev gs : List FreeEnd
    gs = map (declared_as r.checked.now.program) new

    abbrev pub after : List (ℕ × ℕ) → MachineParts
    after queue = record { program = r.checked.now.program; agents = agents_in b; free = leading_to gs es; queue = queue; vacant = vacant_in (at_rest b) }

    abbrev n : Net ℕ
    n = net_of (seen b gs es)

    first_free : gs ≡ take own fs
    first_free = ap (map (declared_as r.checked.now.program)) is_new ∙ sym (take-map (declared_as r.checked.now.program) own r.free.items)

    abbrev ends_two : (x y : FreeEnd) × (fs ≡ take own fs ++ (x ∷ y ∷ []))
    ends_two = last_two fs own many

    all_free : fs ≡ gs ++ (ends_two.0 ∷ ends_two.1 ∷ [])
    all_free = ends_two.2 ∙ ap (λ (zs : List FreeEnd). zs ++ (ends_two.0 ∷ ends_two.1 ∷ [])) (sym first_free)

    fewer : length gs ≡ own
    fewer = let e = ap length all_free ∙ length-append gs (ends_two.0 ∷ ends_two.1 ∷ []) in let m = many in omega (arith, e, m)

    listed : length gs ≤ length es
    listed = let e = fewer in let f = fits in let m = many in omega (arith, e, f, m, long)

    joined : JoinsEnds m own (suc own) n
    joined = joins n (subst (λ (z : ℕ). IsShown b (take z es) n) fewer (is_shown b gs es))

    frees : m.free ≡ n.free ++ (ends_two.0.kind ∷ ends_two.1.kind ∷ [])
    frees = same_kinds fs es0 fits ∙ ap (map (λ (f : FreeEnd). f.kind)) all_free ∙ map-append (λ (f : FreeEnd). f.kind) gs (ends_two.0 ∷ ends_two.1 ∷ []) ∙ ap (λ (ts : List PortType). ts ++ (ends_two.0.kind ∷ ends_two.1.kind ∷ [])) (sym (same_kinds gs es listed))

    many_after : length n.free ≡ own
    many_after = length-map (leading_to gs es) (λ (f : FreeEnd). f.kind) ∙ same_many gs es listed ∙ fewer

    once : IsJoinedOnce m n
    once = record { first = ends_two.0.kind; second = ends_two.1.kind; free = frees; joins = subst (λ (z : ℕ). JoinsEnds m z (suc z) n) (sym many_after) joined }

    sound : IsSound p n
    sound = can n once

    -- ---- pairs

    abbrev Old : AgentNo × AgentNo → Type 0
    Old = IsActivePair t (parts_of (reducer_view r))

    abbrev New : AgentNo × AgentNo → Type 0
    New = IsActivePair t (seen b gs es)

    same_symbol : (x : ℕ) → symbol_in (seen b gs es) x ≡ symbol_in (parts_of (reducer_view r)) x
    same_symbol x = symbols_stay r.arena b (leading_to fs es0) (leading_to gs es) kept x

    old_is_new : (q : AgentNo × AgentNo) → Old q → New q
    old_is_new q h = record {
      active = map_is (partner_in (seen b gs es) (code.Port q.0 0)) (Port q.1.0 0)
          ((joined.wires (Port q.0.0 0) (Port q.1.0 0)).1 (((λ e. cc), (λ e. cc)), ((λ e. cc), (λ e. cc)), inl (net_wire (parts_of (reducer_view r)) (code.Port q.0 0) (code.Port q.1 0) h.active)));
      first = h.first;
      second = h.second;
      one = same_symbol q.0.0 ∙ h.one;
      two = same_symbol q.1.0 ∙ h.two;
      order = h.order;
    }

    -- the principal ports at the two free ends
    abbrev Across : ℕ → ℕ → Type 0
    Across x y = ((m.partner (Port x 0) ≡ Some (Free own)) × (m.partner (Free (suc own)) ≡ Some (Port y 0))) ⊎ ((m.partner (Port x 0) ≡ Some (Free (suc own))) × (m.partner (Free own) ≡ Some (Port y 0)))

    new_or_old : (q : AgentNo × AgentNo) → New q → Old q ⊎ Across q.0.0 q.1.0
    new_or_old q h = elim ((joined.wires (Port q.0.0 0) (Port q.1.0 0)).0 (net_wire (seen b gs es) (code.Port q.0 0) (code.Port q.1 0) h.active)).2 [
      | inl e ↦ inl (record {
        active = map_is (partner_in (parts_of (reducer_view r)) (code.Port q.0 0)) (Port q.1.0 0) e;
        first = h.first;
        second = h.second;
        one = sym (same_symbol q.0.0) ∙ h.one;
        two = sym (same_symbol q.1.0) ∙ h.two;
        order = h.order;
      })
      | inr e ↦ inr e
    ]

    -- an agent at such a port is in no pair of before
    not_old : (q : AgentNo × AgentNo) → Old q → (j : ℕ) → m.partner (Port q.0.0 0) ≡ Some (Free j) → ⊥
    not_old q h j e = let f : Port q.1.0 0 ≡ Free j = same_Some (Port q.1.0 0) (Free j) (sym (net_wire (parts_of (reducer_view r)) (code.Port q.0 0) (code.Port q.1 0) h.active) ∙ e) in cc

    module _ (one other : End) (at_one : slice_get es0 own ≡ Some one) (at_other : slice_get es0 (suc own) ≡ Some other) where
      leads_one : m.partner (Free own) ≡ Some (shown_point.point_of one)
      leads_one = stands own one (omega arith) at_one

      leads_other : m.partner (Free (suc own)) ≡ Some (shown_point.point_of other)
      leads_other = stands (suc own) other (omega arith) at_other

      -- the port that is at an end
      at_port : (e : End) (x : ℕ) → shown_point.point_of e ≡ Port x 0 → e ≡ shown_point.end_of (Port x 0)
      at_port e x h = sym (point_end e) ∙ ap shown_point.end_of h

      both_ports : (x y : ℕ) → Across x y → ((one ≡ shown_point.end_of (Port x 0)) × (other ≡ shown_point.end_of (Port y 0))) ⊎ ((one ≡ shown_point.end_of (Port y 0)) × (other ≡ shown_point.end_of (Port x 0)))
      both_ports x y (inl (e, f)) = inl (at_port one x (same_Some (shown_point.point_of one) (Port x 0) (sym leads_one ∙ k.reducer.net.sound.net.back (Port x 0) (Free own) e)), at_port other y (same_Some (shown_point.point_of other) (Port y 0) (sym leads_other ∙ f)))
      both_ports x y (inr (e, f)) = inr (at_port one y (same_Some (shown_point.point_of one) (Port y 0) (sym leads_one ∙ f)), at_port other x (same_Some (shown_point.point_of other) (Port x 0) (sym leads_other ∙ k.reducer.net.sound.net.back (Port x 0) (Free (suc own)) e)))

      abbrev queue : List (ℕ × ℕ)
      queue = r.queue.items

      -- ---- no pair

      none_across : IsNoPair one other → (q : AgentNo × AgentNo) → Across q.0.0 q.1.0 → ⊥
      none_across none q a = elim (both_ports q.0.0 q.1.0 a) [ inl h ↦ none q.0.0 q.1.0 h.0 h.1 | inr h ↦ none q.1.0 q.0.0 h.0 h.1 ]

      as_before : IsNoPair one other → IsQueueOf t (seen b gs es) queue
      as_before none = record {
        pairs = λ j q e. old_is_new (agents_at q) (k.reducer.queue.pairs j q e);
        all = λ q h. (elim (new_or_old q h) [ inl o ↦ k.reducer.queue.all q o | inr a ↦ absurd (none_across none q a) ]);
        once = k.reducer.queue.once;
      }

      -- ---- one pair

      module _ (q : AgentNo × AgentNo) (pair : IsPairOf t b one other q) where
        abbrev x : ℕ
        x = pair.one.0.0

        abbrev y : ℕ
        y = pair.two.0.0

        to_one : m.partner (Free own) ≡ Some (Port x 0)
        to_one = leads_one ∙ ap (λ (e : End). Some (shown_point.point_of e)) pair.at_one

        to_other : m.partner (Free (suc own)) ≡ Some (Port y 0)
        to_other = leads_other ∙ ap (λ (e : End). Some (shown_point.point_of e)) pair.at_two

        from_one : m.partner (Port x 0) ≡ Some (Free own)
        from_one = k.reducer.net.sound.net.back (Free own) (Port x 0) to_one

        from_other : m.partner (Port y 0) ≡ Some (Free (suc own))
        from_other = k.reducer.net.sound.net.back (Free (suc own)) (Port y 0) to_other

        wire_forth : n.partner (Port x 0) ≡ Some (Port y 0)
        wire_forth = (joined.wires (Port x 0) (Port y 0)).1 (((λ e. cc), (λ e. cc)), ((λ e. cc), (λ e. cc)), inr (inl (from_one, to_other)))

        wire_back : n.partner (Port y 0) ≡ Some (Port x 0)
        wire_back = (joined.wires (Port y 0) (Port x 0)).1 (((λ e. cc), (λ e. cc)), ((λ e. cc), (λ e. cc)), inr (inr (from_other, to_one)))

        symbol_of_word : (z : ℕ) (s : SymbolNo) → word_of (state_at b z) ≡ Some s.0 → symbol_in (seen b gs es) z ≡ Some s
        symbol_of_word z s h = symbol_by b (leading_to gs es) z ∙ ap (option_map (λ (w : ℕ). let s : SymbolNo = record { 0 = w } in s)) h

        made_between : (a d : AgentNo × SymbolNo) → (n.partner (Port a.0.0 0) ≡ Some (Port d.0.0 0)) → symbol_in (seen b gs es) a.0.0 ≡ Some a.1 → symbol_in (seen b gs es) d.0.0 ≡ Some d.1 → StandsFirst t a.1 d.1 a.0 d.0 → New (a.0, d.0)
        made_between a d wire one_is two_is order = record { active = map_is (partner_in (seen b gs es) (code.Port a.0 0)) (Port d.0.0 0) wire; first = a.1; second = d.1; one = one_is; two = two_is; order = order }

        is_new_pair : New q
        is_new_pair = elim pair.order [
          | inl h ↦ subst New (sym h.0) (made_between pair.one pair.two wire_forth (symbol_of_word x pair.one.1 pair.symbol_one) (symbol_of_word y pair.two.1 pair.symbol_two) h.1)
          | inr h ↦ subst New (sym h.0) (made_between pair.two pair.one wire_back (symbol_of_word y pair.two.1 pair.symbol_two) (symbol_of_word x pair.one.1 pair.symbol_one) h.1)
        ]

        agents : ((q.0 ≡ pair.one.0) × (q.1 ≡ pair.two.0)) ⊎ ((q.0 ≡ pair.two.0) × (q.1 ≡ pair.one.0))
        agents = elim pair.order [
          | inl h ↦ inl (ap (λ (z : AgentNo × AgentNo). z.0) h.0, ap (λ (z : AgentNo × AgentNo). z.1) h.0)
          | inr h ↦ inr (ap (λ (z : AgentNo × AgentNo). z.0) h.0, ap (λ (z : AgentNo × AgentNo). z.1) h.0)
        ]

        abbrev Shares : AgentNo × AgentNo → Type 0
        Shares z = (z.0 ≡ q.0) ⊎ (z.0 ≡ q.1) ⊎ (z.1 ≡ q.0) ⊎ (z.1 ≡ q.1)

        numbered : (a d : AgentNo) → a.0 ≡ d.0 → a ≡ d
        numbered a d e = λ i. record { 0 = e i }

        shares_by : (z : AgentNo × AgentNo) → (z.0.0 ≡ x) ⊎ (z.0.0 ≡ y) → Shares z
        shares_by z (inl e) = elim agents [ inl h ↦ inl (numbered z.0 pair.one.0 e ∙ sym h.0) | inr h ↦ inr (inl (numbered z.0 pair.one.0 e ∙ sym h.1)) ]
        shares_by z (inr e) = elim agents [ inl h ↦ inr (inl (numbered z.0 pair.two.0 e ∙ sym h.1)) | inr h ↦ inl (numbered z.0 pair.two.0 e ∙ sym h.0) ]

        across_is : (z : AgentNo × AgentNo) → New z → Across z.0.0 z.1.0 → z ≡ q
        across_is z h a = apart t (seen b gs es) (back_in t (seen b gs es) sound.net) z q h is_new_pair (shares_by z (elim (both_ports z.0.0 z.1.0 a) [
          | inl e ↦ inl (same_agent z.0.0 x (sym e.0 ∙ pair.at_one))
          | inr e ↦ inr (same_agent z.0.0 y (sym e.1 ∙ pair.at_two))
        ]))

        abbrev longer : List (ℕ × ℕ)
        longer = queue ++ numbers_of q ∷ []

        first_free_end : (j : ℕ) × (m.partner (Port q.0.0 0) ≡ Some (Free j))
        first_free_end = elim agents [
          | inl h ↦ (own, ap (λ (z : AgentNo). m.partner (Port z.0 0)) h.0 ∙ from_one)
          | inr h ↦ (suc own, ap (λ (z : AgentNo). m.partner (Port z.0 0)) h.0 ∙ from_other)
        ]

        not_in_queue : (j : ℕ) → slice_get queue j ≡ Some (numbers_of q) → ⊥
        not_in_queue j e = not_old q (k.reducer.queue.pairs j (numbers_of q) e) first_free_end.0 first_free_end.1

        one_longer : IsQueueOf t (seen b gs es) longer
        one_longer = record {
          pairs = λ j z e. (elim (snoc_at queue (numbers_of q) j z e) [ inl h ↦ old_is_new (agents_at z) (k.reducer.queue.pairs j z h) | inr h ↦ subst (λ (z : ℕ × ℕ). New (agents_at z)) h.1 is_new_pair ]);
          all = λ z h. (elim (new_or_old z h) [
            | inl o ↦ (let j = k.reducer.queue.all z o in (j.0, snoc_front queue (numbers_of q) j.0 (numbers_of z) j.1))
            | inr a ↦ (length queue, last_at queue (numbers_of q) ∙ ap (λ (z : AgentNo × AgentNo). Some (numbers_of z)) (sym (across_is z h a)))
          ]);
          once = λ i j z e f. once_by i j z (snoc_at queue (numbers_of q) i z e) (snoc_at queue (numbers_of q) j z f);
        }
          where
            once_by : (i j : ℕ) (z : ℕ × ℕ) → (slice_get queue i ≡ Some z) ⊎ ((i ≡ length queue) × (numbers_of q ≡ z)) → (slice_get queue j ≡ Some z) ⊎ ((j ≡ length queue) × (numbers_of q ≡ z)) → i ≡ j
            once_by i j z (inl e) (inl f) = k.reducer.queue.once i j z e f
            once_by i j z (inr e) (inr f) = e.0 ∙ sym f.0
            once_by i j z (inl e) (inr f) = absurd (not_in_queue i (e ∙ ap (λ (z : ℕ × ℕ). Some z) (sym f.1)))
            once_by i j z (inr e) (inl f) = absurd (not_in_queue j (f ∙ ap (λ (z : ℕ × ℕ). Some z) (sym e.1)))

      -- ---- the queue after

      pub is_queue : (made : List (ℕ × ℕ)) → AddsPair t b one other [] made → IsQueueOf t (seen b gs es) (queue ++ reverse made)
      is_queue made (inl (none, is)) = subst (IsQueueOf t (seen b gs es)) (sym (ap (λ (z : List (ℕ × ℕ)). queue ++ reverse z) is ∙ append-nil queue)) (as_before none)
      is_queue made (inr (q, pair, is)) = subst (λ (z : List (ℕ × ℕ)). IsQueueOf t (seen b gs es) (queue ++ reverse z)) (sym is) (one_longer q pair)

    -- ---- all

    pub still_net : IsNetIn t (at_rest b)
    still_net = net_stays t r.arena b k.net.all kept.cells (as_many r.arena b kept) (kept_good r.arena b kept t r.arena (good_of t r.arena k.net))

    pub is_reducer : (queue : List (ℕ × ℕ)) → IsQueueOf t (seen b gs es) queue → IsReducer (after queue)
    is_reducer queue h = record {
      accepted = k.reducer.accepted;
      net = record { sound = sound; over = is_over t b gs es sound.net sound.within };
      queue = h;
      cells = (b.cells, subst AreAllowed (sym kept.cells) k.few, λ d. cells_at_rest t b still_net d);
    }

    -- the queue has room for as many pairs as `queue` has
    pub few_pairs : (queue : List (ℕ × ℕ)) → IsQueueOf t (seen b gs es) queue → length queue ≤ r.queue.room
    few_pairs queue h =
        let reducer = is_reducer queue h in
        let short = short_queue (after queue) reducer in
        let many = counts_alike reducer.cells.0 b.cells (λ c. sym (reducer.cells.2 c) ∙ cells_at_rest t b still_net c) in
        let e = ap all_of kept.cells in
        let room = k.queue in
        omega (arith, short, many, e, room)

    pub joins_last : NoneLeased r.arena → (added behind : List (ℕ × ℕ)) → behind ≡ r.queue.items ++ added → JoinsLast (reducer_view r) (after behind)
    unfolding once
    joins_last none added behind is = record {
      program = refl;
      joined = once;
      names = (
        ends_two.0.name,
        ends_two.1.name,
        same_names fs es0 fits ∙ ap (map (λ (f : FreeEnd). f.name)) all_free ∙ map-append (λ (f : FreeEnd). f.name) gs (ends_two.0 ∷ ends_two.1 ∷ []) ∙ ap (λ (ns : List (List ℕ)). ns ++ (ends_two.0.name ∷ ends_two.1.name ∷ [])) (sym (same_names gs es listed)),
      );
      made = added;
      queue = is;
      vacant = ap vacant_in (rests b (still_unleased r.arena b (kept_alike r.arena b kept) none)) ∙ (λ j. need_by (λ c. kept.free c j)) ∙ ap vacant_in (sym (rests r.arena none));
    }

    pub fewer_free : length new ≡ own
    fewer_free = sym (length-map new (declared_as r.checked.now.program)) ∙ fewer

    pub own_ends : (j : ℕ) (e : OwnEnd) → slice_get new j ≡ Some e → IsOwnEnd r.checked.now.program e
    own_ends j e at = k.free j e (first_of own r.free.items j e (ap (λ (z : List OwnEnd). slice_get z j) (sym is_new) ∙ at))
      where
        first_of : (n : ℕ) (xs : List OwnEnd) (j : ℕ) (e : OwnEnd) → slice_get (take n xs) j ≡ Some e → slice_get xs j ≡ Some e
        first_of zero xs j e h = cc
        first_of (suc n) [] j e h = cc
        first_of (suc n) (x ∷ xs) zero e h = h
        first_of (suc n) (x ∷ xs) (suc j) e h = first_of n xs j e h
