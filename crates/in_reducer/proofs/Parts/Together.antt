-- The nets of two reducers in the cells of one of them, side by side, in any order of their free ends.
use Rattle.std.proofs.Common.{◌≡◌, ◌⊎◌, inl, inr, ◌<◌, ◌≤◌, ◌+◌, ℕ, zero, suc, true, Some, List, [], ◌∷◌, ◌++◌, length, map, take, drop, get_or, count_by, slice_get, refl, sym, ap, subst, ◌∙◌, length-append, arith}
use Rattle.std.specs.Prelude.{All, option_map}
use Rattle.std.proofs.Math.Seq.{take-append_seam}
use Rattle.std.proofs.lemmas.List.{length-map, length-take-le}
use Rattle.std.proofs.lemmas.Option.{same_Some}
use native.Mathlib.Decide.{ℕ_discrete}
use Rattle.in_arena.specs.Arenas.{ArenaView, NoneLeased, state_at}
use Rattle.in_arena.specs.Classes.{IsNumberOf, all_of, amount, holds}
use Rattle.in_arena.specs.States.{Vacant, Leased, IsLeased, places, word_of}
use Rattle.in_arena.specs.declared.content.CellClass.{CellClass}
use Rattle.in_arena.specs.declared.content.CellCounts.{CellCounts}
use Rattle.in_arena.specs.declared.content.CellNo.{CellNo}
use Rattle.in_arena.specs.declared.content.End.{End}
use Rattle.in_arena.specs.declared.content.End.TheVariants as end
use Rattle.in_arena.proofs.Public.{state_inside, numbers_apart}
use Rattle.in_reducer.specs.Limiting.{AreAllowed}
use Rattle.in_symbols.specs.Tables.{Tables, arity_of}
use Rattle.in_net.specs.declared.nets.FreeEnd.{FreeEnd}
use Rattle.in_net.specs.Nets.{Port, Free, Net, signature_of}
use Rattle.in_net.specs.Parts.{symbol_in}
use Rattle.in_net.proofs.Public.{symbol_of}
use Rattle.in_interaction.specs.Queues.{IsQueueOf, both}
use Rattle.in_interaction.proofs.Public.{symbol_number}
use Rattle.in_check.specs.Programs.{Program}
use Rattle.in_check.specs.Systems.{System, IsSound, system_of}
use Rattle.in_check.proofs.Public.{opposed_in}
use Rattle.in_compile.specs.Cells.{agents_of, count_of, is_of}
use Rattle.in_gluing.specs.Joining.{WiresLeadBack}
use Rattle.in_cells.specs.Shown.{IsShown, point_of}
use Rattle.in_cells.specs.Copying.{AreClosed, HasCellsFor, IsCopied, IsListOfLive, IsEndWithin, is_for, moved, name_in, number_in}
use Rattle.in_cells.specs.Laws.{ShowsAll}
use Rattle.in_cells.specs.TakingOut.{AreNumberedAnew}
use Rattle.in_cells.proofs.Public.{all_are_closed, not_leased, numbered_leased_stays, numbered_was_leased, numbered_word, word_moved}
use Rattle.in_gluing.specs.SideBySide.{StandBeside}
use Rattle.in_order.proofs.Public.{beside_sound_is_sound}
use Rattle.in_reducer.specs.declared.body.Body.{Body}
use Rattle.in_reducer.specs.declared.body.OwnEnd.{OwnEnd}
use Rattle.in_reducer.specs.Gluing.{CanAppend, IsCellWithin, IsFreeWithin}
use Rattle.in_reducer.specs.Cutting.{net_in}
use Rattle.in_reducer.specs.Inside.{KeepsNet, declared_as, own_free, reducer_view}
use Rattle.in_reducer.specs.Machines.{MachineParts, parts_of}
use Rattle.in_reducer.specs.Reducers.{IsReducer}
use Rattle.in_reducer.specs.Standing.{AreLeasedAlike, IsNetIn, agents_in, at_rest, leading_to, vacant_in}
use Rattle.in_reducer.proofs.Cells.Counted.{cells_at_rest}
use Rattle.in_reducer.proofs.Cells.LiveCounted.{agents_listed}
use Rattle.in_reducer.proofs.Pairs.QueueBeside.{queue_beside}
use Rattle.in_reducer.proofs.Pairs.Queues.{short_queue}
use Rattle.in_reducer.proofs.Cells.Shown.{is_over, is_shown, partner_seen, places_seen, same_kinds, same_many, same_names, symbol_seen}
use Rattle.in_reducer.proofs.Steps.StillNet.{IsGood, good_of, net_in as net_stays, still_unleased}
use Rattle.in_reducer.proofs.Parts.SplitCells.{vacant_is, to_holds}

-- ---- names

-- a cell is that of a copy, or of none
abbrev pub IsNamed : List CellNo → List CellNo → ℕ → Type 0
IsNamed agents names n = (j : ℕ) × (c : CellNo) × (slice_get agents j ≡ Some c) × (name_in names c.0 ≡ n)

named_or_not : (agents names : List CellNo) (n : ℕ) → IsNamed agents names n ⊎ ((j : ℕ) (c : CellNo) → slice_get agents j ≡ Some c → name_in names c.0 ≡ n → ⊥)
named_or_not [] names n = inr (λ j c e h. cc)
named_or_not (a ∷ more) names n = go (ℕ_discrete (name_in names a.0) n) (named_or_not more names n)
  where
    go : Dec (name_in names a.0 ≡ n) → IsNamed more names n ⊎ ((j : ℕ) (c : CellNo) → slice_get more j ≡ Some c → name_in names c.0 ≡ n → ⊥)
        → IsNamed (a ∷ more) names n ⊎ ((j : ℕ) (c : CellNo) → slice_get (a ∷ more) j ≡ Some c → name_in names c.0 ≡ n → ⊥)
    go (yes e) other = inl (0, a, refl, e)
    go (no d) (inl r) = inl (suc r.0, r.1, r.2, r.3)
    go (no d) (inr g) = inr at
      where
        at : (j : ℕ) (c : CellNo) → slice_get (a ∷ more) j ≡ Some c → name_in names c.0 ≡ n → ⊥
        at zero c e h = d (ap (λ (z : CellNo). name_in names z.0) (same_Some a c e) ∙ h)
        at (suc j) c e h = g j c e h

-- ---- ends within bounds

-- a property of each element is one of each number's element
by_number : {X : Type 0} (P : X → Type 0) (xs : List X) → ((j : ℕ) (e : X) → slice_get xs j ≡ Some e → P e) → All P xs
by_number P [] h k d low = absurd (omega (arith, low))
by_number P (x ∷ xs) h zero d low = h 0 x refl
by_number P (x ∷ xs) h (suc k) d low = by_number P xs (λ j. h (suc j)) k d (omega (arith, low))

within_more : (cells more many : ℕ) (e : End) → cells ≤ more → IsEndWithin cells many e → IsEndWithin more many e
within_more cells more many (end.Cell c i) low h = omega (arith, low, h)
within_more cells more many (end.Free k) low h = h

free_within : (cells many : ℕ) (e : End) → IsEndWithin cells many e → IsFreeWithin many e
free_within cells many (end.Cell c i) h j is = cc
free_within cells many (end.Free k) h j is = let same : k ≡ j = cc in omega (arith, same, h)

cell_within : (cells many : ℕ) (e : End) → IsEndWithin cells many e → IsCellWithin cells e
cell_within cells many (end.Cell c i) h d j is = let same : c ≡ d = cc in subst (λ (z : CellNo). z.0 < cells) same h
cell_within cells many (end.Free k) h d j is = cc

pub within_both : (cells many : ℕ) (e : End) → IsCellWithin cells e → IsFreeWithin many e → IsEndWithin cells many e
within_both cells many (end.Cell c i) h g = h c i refl
within_both cells many (end.Free k) h g = g k refl

-- a property of each element is one of each element of a part of the list
pub all_drop : {X : Type 0} (P : X → Type 0) (n : ℕ) (xs : List X) → All P xs → All P (drop n xs)
all_drop P zero xs h = h
all_drop P (suc n) [] h = λ k d low. absurd (omega (arith, low))
all_drop P (suc n) (x ∷ xs) h = all_drop P n xs (λ k d low. h (suc k) d (omega (arith, low)))

pub all_take : {X : Type 0} (P : X → Type 0) (n : ℕ) (xs : List X) → All P xs → All P (take n xs)
all_take P zero xs h k d low = absurd (omega (arith, low))
all_take P (suc n) [] h k d low = absurd (omega (arith, low))
all_take P (suc n) (x ∷ xs) h zero d low = h 0 d (omega arith)
all_take P (suc n) (x ∷ xs) h (suc k) d low = all_take P n xs (λ j z less. h (suc j) z (omega (arith, less))) k d (omega (arith, low))

-- ---- one reducer

module _ (o : Body) (l : KeepsNet o) where
  pub many_free : length (own_free o) ≡ length o.free.items
  many_free = length-map o.free.items (declared_as o.checked.now.program)

  pub fits : length (own_free o) ≤ length o.ends.items
  fits = let e = l.ends in let f = many_free in omega (arith, e, f)

  pub many_ends : length (net_in (reducer_view o)).free ≡ length o.free.items
  many_ends = length-map (leading_to (own_free o) o.ends.items) (λ (f : FreeEnd). f.kind) ∙ same_many (own_free o) o.ends.items fits ∙ many_free

  pub shows : ShowsAll o.arena (take (length (own_free o)) o.ends.items) (net_in (reducer_view o))
  shows = record {
    shown = is_shown o.arena (own_free o) o.ends.items;
    many = length-take-le (length (own_free o)) o.ends.items fits ∙ many_free ∙ sym many_ends;
  }

  pub leads_back : WiresLeadBack (net_in (reducer_view o))
  leads_back = (l.reducer.net.sound.net.back, l.reducer.net.sound.net.apart)

  word_inside : (y s : ℕ) → word_of (state_at o.arena y) ≡ Some s → y < length o.arena.states
  word_inside y s e = state_inside o.arena y (λ f. (let g : word_of Leased ≡ Some s = sym (ap word_of f) ∙ e in cc))

  symbol_inside : (y s : ℕ) → (net_in (reducer_view o)).symbol y ≡ Some s → y < length o.arena.states
  symbol_inside y s e = word_inside y s (sym (symbol_seen o.arena (own_free o) o.ends.items y) ∙ e)

  -- a free end leads within the net
  pub end_within : (j : ℕ) (e : End) → slice_get (take (length (own_free o)) o.ends.items) j ≡ Some e → IsEndWithin (length o.arena.states) (length o.free.items) e
  end_within j e at = go e (l.reducer.net.sound.net.back (Free j) (point_of e) (partner_seen o.arena (own_free o) o.ends.items (Free j) ∙ ap (option_map point_of) at))
    where
      go : (e : End) → (net_in (reducer_view o)).partner (point_of e) ≡ Some (Free j) → IsEndWithin (length o.arena.states) (length o.free.items) e
      go (end.Cell c i) h =
          let s = symbol_of (signature_of o.checked.now.program.tables) ((net_in (reducer_view o)).symbol c.0) i (l.reducer.net.sound.net.points (Port c.0 i) (Free j) h) in
          symbol_inside c.0 s.0 s.1
      go (end.Free k) h =
          let low : k < length (net_in (reducer_view o)).free = l.reducer.net.sound.net.points (Free k) (Free j) h in
          let many = many_ends in
          let z : k < length o.free.items = omega (arith, low, many) in
          z

  -- .. and so does each of the list, by numbers that may be more
  pub all_within : (cells many : ℕ) → length o.arena.states ≤ cells → many ≡ length o.free.items → All (IsEndWithin cells many) (take many o.ends.items)
  all_within cells many low is =
      subst (λ (z : ℕ). All (IsEndWithin cells z) (take z o.ends.items)) (sym is)
      (subst (λ (z : ℕ). All (IsEndWithin cells (length o.free.items)) (take z o.ends.items)) many_free
      (by_number (IsEndWithin cells (length o.free.items)) (take (length (own_free o)) o.ends.items) (λ j e at. within_more (length o.arena.states) cells (length o.free.items) e low (end_within j e at))))

  pub all_free_within : (many : ℕ) → many ≡ length o.free.items → All (IsFreeWithin many) (take many o.ends.items)
  all_free_within many is = λ j d low. free_within (length o.arena.states) many (get_or (take many o.ends.items) j d) (all_within (length o.arena.states) many (omega arith) is j d low)

  pub all_cells_within : (cells many : ℕ) → length o.arena.states ≤ cells → many ≡ length o.free.items → All (IsCellWithin cells) (take many o.ends.items)
  all_cells_within cells many low is = λ j d at. cell_within cells many (get_or (take many o.ends.items) j d) (all_within cells many low is j d at)

  -- a pair is of agents that are there
  pub pair_within : (j : ℕ) (q : ℕ × ℕ) → slice_get o.queue.items j ≡ Some q → (q.0 < length o.arena.states) × (q.1 < length o.arena.states)
  pair_within j q at =
      let h = l.reducer.queue.pairs j q at in
      (symbol_inside q.0 h.first.0 (symbol_number (symbol_in (parts_of (reducer_view o)) q.0) h.first h.one), symbol_inside q.1 h.second.0 (symbol_number (symbol_in (parts_of (reducer_view o)) q.1) h.second h.two))

-- ---- the net shown afterwards

-- these free ends lead to the first ends of that list
abbrev pub in_cells : Body → ArenaView → List OwnEnd → List End → List (ℕ × ℕ) → MachineParts
in_cells r b new list queue = record { program = r.checked.now.program; agents = agents_in b; free = leading_to (map (declared_as r.checked.now.program) new) list; queue = queue; vacant = vacant_in (at_rest b) }

module _ (r : Body) (b : ArenaView) (new : List OwnEnd) (shown_ends sides list : List End) (queue : List (ℕ × ℕ)) (many_shown : length shown_ends ≡ length new) (is_list : list ≡ shown_ends ++ sides) where
  abbrev hs : List FreeEnd
  hs = map (declared_as r.checked.now.program) new

  many_new : length hs ≡ length new
  many_new = length-map new (declared_as r.checked.now.program)

  first_ends : take (length hs) list ≡ shown_ends
  first_ends = ap (λ (z : ℕ). take z list) (many_new ∙ sym many_shown) ∙ ap (take (length shown_ends)) is_list ∙ take-append_seam shown_ends sides

  listed : length hs ≤ length list
  listed = let e = ap length is_list ∙ length-append shown_ends sides in let f = many_shown in let g = many_new in omega (arith, e, f, g)

  pub shown_after : IsShown b shown_ends (net_in (in_cells r b new list queue))
  shown_after = subst (λ (es : List End). IsShown b es (net_in (in_cells r b new list queue))) first_ends (is_shown b hs list)

  pub kinds_after : (net_in (in_cells r b new list queue)).free ≡ map (λ (f : FreeEnd). f.kind) hs
  kinds_after = same_kinds hs list listed

  pub names_after : map (λ (f : FreeEnd). f.name) (leading_to hs list) ≡ map (λ (f : FreeEnd). f.name) hs
  names_after = same_names hs list listed

-- ---- two reducers

module _ (r o : Body) (k : KeepsNet r) (l : KeepsNet o) (can : CanAppend (reducer_view r) (reducer_view o)) where
  abbrev t : Tables
  t = r.checked.now.program.tables

  abbrev p : System
  p = system_of r.checked.now.program

  abbrev gs : List FreeEnd
  gs = own_free o

  abbrev m : Net ℕ
  m = net_in (reducer_view r)

  abbrev n : Net ℕ
  n = net_in (reducer_view o)

  -- the other net is one of this program
  sound_more : IsSound p n
  sound_more = subst (λ (z : Program). IsSound (system_of z) n) can.program l.reducer.net.sound

  -- the places of the other's agents
  places_more : (y s : ℕ) → word_of (state_at o.arena y) ≡ Some s → places (state_at o.arena y) ≡ suc (arity_of t s)
  places_more y s e = places_seen t o.arena gs o.ends.items sound_more.net sound_more.within y s e

  module _ (agents : List CellNo) (live : IsListOfLive o.arena agents) where
    counted_more : (c : CellClass) → count_by (is_for o.arena c) agents ≡ agents_of t c (agents_in o.arena)
    counted_more c = agents_listed t c o.arena agents live places_more

    pub closed : (many : ℕ) → many ≡ length o.free.items → AreClosed o.arena agents many
    closed w is = subst (AreClosed o.arena agents) (length-take-le (length gs) o.ends.items (fits o l) ∙ many_free o l ∙ sym is) (all_are_closed o.arena agents (take (length gs) o.ends.items) n (shows o l).shown (leads_back o l) live.all)

    pub room : NoneLeased r.arena → HasCellsFor o.arena agents r.arena
    room none c =
        let e = counted_more c in
        let f = can.room c in
        let g = vacant_is r.arena none c in
        omega (arith, e, f, g)

    -- free ends get other numbers first, and then the other's agents are copied
    module _ (own : ℕ → ℕ) (a : ArenaView) (anew : AreNumberedAnew own r.arena a) (numbers : List ℕ) (names : List CellNo) (b : ArenaView) (copied : IsCopied o.arena agents numbers names a b) where
      abbrev IsIn : ℕ → Type 0
      IsIn = IsNamed agents names

      good : (y : ℕ) → IsGood t r.arena y (state_at b y)
      good y = go (named_or_not agents names y)
        where
          go : IsIn y ⊎ ((j : ℕ) (c : CellNo) → slice_get agents j ≡ Some c → name_in names c.0 ≡ y → ⊥) → IsGood t r.arena y (state_at b y)
          go (inr out) = λ d s in_class w. good_of t r.arena k.net y d s in_class (sym (ap word_of (copied.others y out) ∙ numbered_word own r.arena a anew y) ∙ w)
          go (inl at) = λ d s in_class w. (
              let c = at.1 in
              let state : state_at b y ≡ moved (name_in names) (number_in numbers) (state_at o.arena c.0) = ap (state_at b) (sym at.3) ∙ (copied.each at.0 c at.2).1 in
              let word : word_of (state_at o.arena c.0) ≡ Some s = sym (word_moved (name_in names) (number_in numbers) (state_at o.arena c.0)) ∙ sym (ap word_of state) ∙ w in
              let class = copied.classes at.0 c at.2 in
              let same : class.0 ≡ d = numbers_apart r.arena.cells y class.0 d (subst (λ (z : CellCounts). IsNumberOf z class.0 y) (copied.cells ∙ anew.cells) (subst (IsNumberOf b.cells class.0) at.3 class.2)) in_class in
              let many = places_more c.0 s word in
              let fit : holds class.0 (arity_of t s + 1) ≡ true = ap (holds class.0) (let z : arity_of t s + 1 ≡ places (state_at o.arena c.0) = omega (arith, many) in z) ∙ to_holds class.0 (places (state_at o.arena c.0)) class.1 in
              subst (λ (z : CellClass). is_of t z s ≡ true) same fit
              )

      pub still_net : IsNetIn t (at_rest b)
      still_net = net_stays t r.arena b k.net.all (copied.cells ∙ anew.cells) (copied.many ∙ anew.many) good

      was_free : (y : ℕ) → IsIn y → state_at a y ≡ Vacant
      was_free y at = ap (state_at a) (sym at.3) ∙ (copied.each at.0 at.1 at.2).0

      pub alike : AreLeasedAlike r.arena b
      alike = record {
        memory = copied.memory ∙ anew.memory;
        cells = copied.cells ∙ anew.cells;
        many = copied.many ∙ anew.many;
        stay = λ y leased. elim (named_or_not agents names y) [
          | inl at ↦ absurd (subst IsLeased (was_free y at) (numbered_leased_stays own r.arena a anew y leased))
          | inr out ↦ subst IsLeased (sym (copied.others y out)) (numbered_leased_stays own r.arena a anew y leased)
        ];
        none = λ y low leased. elim (named_or_not agents names y) [
          | inl at ↦ absurd (not_leased (name_in names) (number_in numbers) (state_at o.arena at.1.0) (live.part.live at.0 at.1 at.2)
              (subst IsLeased (ap (state_at b) (sym at.3) ∙ (copied.each at.0 at.1 at.2).1) leased))
          | inr out ↦ numbered_was_leased own r.arena a anew y (subst IsLeased (copied.others y out) leased)
        ];
      }

      -- the other's agents have taken as many free cells
      pub vacant_after : NoneLeased r.arena → (c : CellClass) → count_of (vacant_in (at_rest b)) c + agents_of t c (agents_in o.arena) ≡ count_of (vacant_in (at_rest r.arena)) c
      vacant_after none c =
          let e = copied.free c in
          let f = counted_more c in
          let g = vacant_is b (still_unleased r.arena b alike none) c in
          let h = vacant_is r.arena none c in
          let i = anew.free c in
          omega (arith, e, f, g, h, i)

      -- .. and there are as many cells as before
      pub cells_after : (c : CellClass) → count_of (vacant_in (at_rest b)) c + agents_of t c (agents_in b) ≡ count_of (vacant_in (at_rest r.arena)) c + agents_of t c (agents_in r.arena)
      cells_after c = cells_at_rest t b still_net c ∙ ap (λ (z : CellCounts). amount z c) (copied.cells ∙ anew.cells) ∙ sym (cells_at_rest t r.arena k.net c)

      -- if the nets are side by side in these cells, they are a reducer's
      module _ (ends : List (ℕ × ℕ)) (new : List OwnEnd) (list : List End) (queue : List (ℕ × ℕ)) (is_queue : queue ≡ r.queue.items ++ map (both (name_in names)) o.queue.items)
          (stand : StandBeside m n (name_in names) ends (net_in (in_cells r b new list queue))) where
        abbrev after : MachineParts
        after = in_cells r b new list queue

        sound : IsSound p (net_in after)
        sound = beside_sound_is_sound p m n (net_in after) (name_in names) ends k.reducer.net.sound sound_more stand

        queue_more : IsQueueOf t (parts_of (reducer_view o)) o.queue.items
        queue_more = subst (λ (z : Program). IsQueueOf z.tables (parts_of (reducer_view o)) o.queue.items) can.program l.reducer.queue

        queue_after : IsQueueOf t (parts_of after) queue
        queue_after = subst (IsQueueOf t (parts_of after)) (sym is_queue)
            (queue_beside t (parts_of (reducer_view r)) (parts_of (reducer_view o)) (parts_of after) (name_in names) ends k.reducer.net.sound.net sound_more.net stand
            (opposed_in t (parts_of (reducer_view o)) sound_more.typed) r.queue.items o.queue.items k.reducer.queue queue_more)

        pub is_reducer : IsReducer after
        is_reducer = record {
          accepted = k.reducer.accepted;
          net = record { sound = sound; over = is_over t b (map (declared_as r.checked.now.program) new) list sound.net sound.within };
          queue = queue_after;
          cells = (b.cells, subst AreAllowed (sym (copied.cells ∙ anew.cells)) k.few, λ d. cells_at_rest t b still_net d);
        }

        -- the queue has room for all pairs
        pub few_pairs : length r.queue.items + length o.queue.items ≤ r.queue.room
        unfolding is_reducer
        few_pairs =
            let short = short_queue after is_reducer in
            let e = k.queue in
            let f = ap all_of copied.cells in
            let i = ap all_of anew.cells in
            let g = ap length is_queue ∙ length-append r.queue.items (map (both (name_in names)) o.queue.items) in
            let h = length-map o.queue.items (both (name_in names)) in
            omega (arith, short, e, f, g, h, i)
