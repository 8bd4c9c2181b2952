-- An arena, a bag and a lease by their words, and as contracts see them after a change of one cell.
use Rattle.std.proofs.Common.{◌≡◌, ◌≢◌, ℕ, zero, suc, ◌+◌, ◌-◌, ◌*◌, ◌<◌, ◌≤◌, List, take, length, set, get_or, replicate, Some, None, refl, sym, ap, ◌∙◌, subst, arith}
use Rattle.std.specs.Prelude.{Option, true, false}
use Rattle.std.proofs.lemmas.List.{ext_get_or, get_or-replicate, get_or-take, length-replicate, length-take-le}
use Rattle.std.proofs.lemmas.Option.{slice_get-get_or}
use Rattle.in_memory.specs.Places.{AreHere, IsHere, together}
use Rattle.in_memory.specs.Splitting.{but, those_of}
use Rattle.in_memory.specs.declared.cells.Cells.{Cells}
use Rattle.in_memory.proofs.Public.{all_here}
use denote.RawPtr.{Ptr, null_ptr}
use Rattle.in_arena.specs.Arenas.{ArenaView, LeaseView, BeginsCell, IsOf, IsUsedOf, Leases, NoneLeased, changed, free_of, state_at, written}
use Rattle.in_arena.specs.ByClass.{IsPlace, seen, view_of}
use Rattle.in_arena.specs.Classes.{Holds, IsNumberOf, all_of, amount, first_of, width}
use Rattle.in_arena.specs.FreeLists.{IsCell, ListsFree, list_in, state_in, state_of, states, vacancy, with_ends}
use Rattle.in_arena.specs.Inside.{IsArena, arena_view}
use Rattle.in_arena.specs.Leases.{IsLease, lease_view}
use Rattle.in_arena.specs.declared.lease.Lease.TheInside.{Inside as LeaseInside}
use Rattle.in_arena.specs.Rows.{BeginsNew, BeginsNewCell, EachListsFree, HasContent, MakesReady, OwnsOne, Rewrites, RowsBecome, RowsStay}
use Rattle.in_arena.specs.States.{State, Vacant, Leased, Live, IsBegun, IsLeased, IsLive, end_at, places, with_end, word_of}
use Rattle.in_arena.specs.Words.{Word, Content, spot, slots, head, slot_of, word_in, count_in, IsHead, end_of, cell_of, is_spot, word_at, words_of, ends_in, cell_in, row_in, IsInOneState, Gone, New, Filled, AreWhole, ChangesCell}
use Rattle.in_arena.specs.declared.arena.Arena.TheInside.{Inside}
use Rattle.in_arena.specs.declared.content.CellClass.{CellClass}
use Rattle.in_arena.specs.declared.content.CellCounts.{CellCounts}
use Rattle.in_arena.specs.declared.content.CellNo.{CellNo}
use Rattle.in_arena.specs.declared.content.End.{End}
use Rattle.in_arena.specs.declared.content.End.TheVariants.{Cell, Free}
use Rattle.in_arena.specs.declared.free_list.FreeList.{FreeList}
use Rattle.in_arena.specs.declared.free_list.FreeLists.{FreeLists}
use Rattle.in_arena.specs.declared.spot.Spot.{Spot}
use Rattle.in_arena.proofs.Arenas.{changed_same, is_of_same, live_inside}
use Rattle.in_arena.proofs.Filling.{changes_twice}
use Rattle.in_arena.proofs.Classes.{at_class, class_of_number, held_some}
use Rattle.in_arena.proofs.FreeLists.{begun, end_written, filled_count, leased_none, list_with, live_cell, live_written, new_row, places_written, used, used_cell, vacancies_are, vacant_state}
use Rattle.in_arena.proofs.Owners.{in_one, none_whole, one_alone, one_cell, rest_cell, rest_changes, rest_gone}
use Rattle.in_arena.proofs.Rewriting.{end_rewrites, first, first_begun, first_below, first_cell, first_taken, first_vacant, head_filled, head_rewrites, number_of_head, one_freed, one_put, place_filled, put_in}
use Rattle.in_arena.proofs.Rows.{all_filled, free_in, head_is, state_is, stays, still_whole, view_becomes, view_long}
use Rattle.in_arena.proofs.Seen.{alike, number_of_place}
use Rattle.in_arena.proofs.Words.{all_some, end_at_is, ends_long, head_inside, kept_whole, near_below, one_number, row_at, row_long, slot_near, spot_inside, spot_near}

-- ---- numbers

pub place_of_number : (cells : CellCounts) (n : ℕ) → n < all_of cells → (c : CellClass) × (i : ℕ) × IsPlace cells n c i
place_of_number cells n lt = let k = class_of_number cells n lt in by k.0 k.1
  where
    by : (c : CellClass) → IsNumberOf cells c n → (c : CellClass) × (i : ℕ) × IsPlace cells n c i
    by c at = let low = at.0 in let high = at.1 in (c, n - first_of cells c, (omega (arith, low, high), omega (arith, low)))

pub near_spot : (cells : CellCounts) (n : ℕ) (c : CellClass) (i q : ℕ) → IsPlace cells n c i → q < 4 → 4 * n + q ≡ spot c cells i q
near_spot cells n c i q p lt = let at = p.1 in omega (arith, spot_near c cells i q lt, at)

-- a place among the first three
pub near_place : (cells : CellCounts) (n : ℕ) (c : CellClass) (i p : ℕ) → IsPlace cells n c i → p < 3 → 4 * n + p ≡ spot c cells i (slot_of p)
near_place cells n c i p at lt = near_spot cells n c i p at (omega (arith, lt)) ∙ ap (spot c cells i) (sym (slot_near p lt))

-- one cell has one place
pub one_class : (cells : CellCounts) (n : ℕ) (c d : CellClass) (i j : ℕ) → IsPlace cells n c i → IsPlace cells n d j → (c ≡ d) × (i ≡ j)
one_class cells n c d i j p q = one_number c d cells i j p.0 q.0 (sym p.1 ∙ q.1)

-- the same word, by both
pub same_spot : (c d : CellClass) (cells cells' : CellCounts) (i j q k : ℕ) → c ≡ d → cells' ≡ cells → i ≡ j → k ≡ spot d cells' j q → k ≡ spot c cells i q
same_spot c d cells cells' i j q k f g h at = at ∙ ap (λ m. spot d m j q) g ∙ ap (λ e. spot e cells j q) (sym f) ∙ ap (λ m. spot c cells m q) (sym h)

-- ---- a live cell

pub live_some : (n w : ℕ) (es : List End) → IsLive (with_ends n w es) → 0 < n
live_some zero w es live = absurd live
live_some (suc n) w es live = omega arith

pub record LiveCell (cells : CellCounts) (ws : List Word) (n : ℕ) : Type 0 where
  pub class : CellClass
  pub index : ℕ
  pub place : IsPlace cells n class index
  pub content : Content
  pub is : cell_in cells ws class index ≡ Some (Some content)
  pub some : 0 < content.count

pub live_at : (at : Ptr) (cells : CellCounts) (ws : List Word) (v : ArenaView) (n : ℕ) → view_of at cells ws ≡ v → IsLive (state_at v n) → LiveCell cells ws n
live_at at cells ws v n e live =
    let seen_live = subst (λ a. IsLive (state_at a n)) (sym e) live in
    let k = place_of_number cells n (omega (arith, live_inside (view_of at cells ws) n seen_live, view_long at cells ws)) in
    let there : IsLive (state_of (cell_in cells ws k.0 k.1)) = subst IsLive (state_is at cells ws n k.0 k.1 k.2) seen_live in
    let x = live_cell (cell_in cells ws k.0 k.1) there in
    record { class = k.0; index = k.1; place = k.2; content = x.0; is = x.1; some = live_some x.0.count x.0.word x.0.ends (subst IsLive (ap state_of x.1) there) }

pub live_state : (at : Ptr) (cells : CellCounts) (ws : List Word) (v : ArenaView) (n : ℕ) → view_of at cells ws ≡ v → (l : LiveCell cells ws n) → state_at v n ≡ state_in l.content
live_state at cells ws v n e l = ap (λ a. state_at a n) (sym e) ∙ state_is at cells ws n l.class l.index l.place ∙ ap state_of l.is

abbrev pub spot_at : (cells : CellCounts) (ws : List Word) (n : ℕ) → LiveCell cells ws n → Spot
spot_at cells ws n l = record { class = l.class; index = l.index; cells = cells }

pub content_long : (cells : CellCounts) (ws : List Word) (n : ℕ) → AreWhole cells ws → (l : LiveCell cells ws n) → length l.content.ends ≡ width l.class
content_long cells ws n all l =
    let f = all_filled cells ws l.class l.index l.content (all.each l.class l.index l.place.0) l.is in let h = f.0 head (head_inside l.class) in
    ap length (sym (head_is cells ws l.class l.index l.content h.0 l.is h.1).2) ∙ ends_long cells ws l.class l.index

-- the end at a place
pub end_there : (x : Content) (p : ℕ) (d : End) → x.count ≤ length x.ends → p < places (state_in x) → end_at (state_in x) p ≡ Some (get_or x.ends p d)
end_there x p d few lt = by x.count few lt
  where
    by : (n : ℕ) → n ≤ length x.ends → p < places (with_ends n x.word x.ends) → end_at (with_ends n x.word x.ends) p ≡ Some (get_or x.ends p d)
    by zero few lt = absurd (omega arith)
    by (suc n) few lt =
        let long = length-take-le (suc n) x.ends few in
        slice_get-get_or (take (suc n) x.ends) p d lt ∙ ap Some (get_or-take (suc n) x.ends p d (omega (arith, lt, long)))

pub places_are : (x : Content) → 0 < x.count → x.count ≤ length x.ends → places (state_in x) ≡ x.count
places_are x some few = (places_written x.word x.count x.ends (subst IsLive (sym (live_written x.word x.count x.ends some)) tt) few).0

pub word_is : (x : Content) → 0 < x.count → word_of (state_in x) ≡ Some x.word
word_is x some = ap word_of (live_written x.word x.count x.ends some)

-- ---- an owner's live cell, by its words

module _ (words : Cells End) (cells : CellCounts) (n : ℕ) (all : AreWhole cells words.slots) (l : LiveCell cells words.slots n) where
  abbrev pub here : Spot
  here = spot_at cells words.slots n l

  pub head_found : (h : End) × (get_or words.slots (4 * n + 3) None ≡ Some (Some h))
  head_found = let h = head_filled words words here l.content l.place.0 all l.is refl in (h.0, ap (λ k. get_or words.slots k None) (near_spot cells n l.class l.index 3 l.place (omega arith)) ∙ h.1)

  pub head_says : (h : End) → get_or words.slots (4 * n + 3) None ≡ Some (Some h) → (word_in h ≡ l.content.word) × (count_in h ≡ l.content.count) × IsHead h
  head_says h at =
      let there : word_at cells words.slots l.class l.index head ≡ Some (Some h) = ap (λ k. get_or words.slots k None) (sym (near_spot cells n l.class l.index 3 l.place (omega arith))) ∙ at in
      let z = head_is cells words.slots l.class l.index l.content h l.is there in
      let f = all_filled cells words.slots l.class l.index l.content (all.each l.class l.index l.place.0) l.is in
      (z.0, z.1, subst (λ w. IsHead (end_of w)) there f.1)

  pub place_found : (p k : ℕ) → p < width l.class → k ≡ spot l.class cells l.index (slot_of p) → (e : End) × (get_or words.slots k None ≡ Some (Some e))
  place_found p k lt at = let e = place_filled words words here l.content l.place.0 all l.is refl p lt in (e.0, ap (λ j. get_or words.slots j None) at ∙ e.1)

  -- the word at a place is the end there
  pub place_says : (p k : ℕ) (e : End) → p < width l.class → p < places (state_in l.content) → l.content.count ≤ width l.class → k ≡ spot l.class cells l.index (slot_of p) → get_or words.slots k None ≡ Some (Some e) → end_at (state_in l.content) p ≡ Some e
  place_says p k e lt inside few at is =
      let f = all_filled cells words.slots l.class l.index l.content (all.each l.class l.index l.place.0) l.is in let h = f.0 head (head_inside l.class) in
      let ends = (head_is cells words.slots l.class l.index l.content h.0 l.is h.1).2 in
      end_there l.content p e (omega (arith, few, content_long cells words.slots n all l)) inside
      ∙ ap (λ es. Some (get_or es p e)) (sym ends) ∙ ap Some (end_at_is cells words.slots l.class l.index p e lt ∙ ap (λ j. end_of (get_or words.slots j None)) (sym at) ∙ ap end_of is)

-- ---- an arena

pub view_stays : (at at' : Ptr) (cells : CellCounts) (old new : List Word) → at' ≡ at → RowsStay cells old new → view_of at' cells new ≡ view_of at cells old
view_stays at at' cells old new same stay = λ z. seen (λ c. same z) cells (λ c. stay c z)

abbrev pub with_row : Inside → Cells End → FreeLists → Inside
with_row a words lists = record { base = a.base; words = words; deed = a.deed; alloc = a.alloc; cells = a.cells; starts = a.starts; lists = lists }

module _ (a : Inside) (h : IsArena a) where
  pub arena_with : (words : Cells End) (lists : FreeLists) → words.at ≡ a.words.at → AreWhole a.cells words.slots → EachListsFree a.cells words.slots lists → IsArena (with_row a words lists)
  arena_with words lists same all free = record { few = h.few; block = (same ∙ h.block.0, h.block.1, h.block.2, h.block.3); starts = h.starts; whole = all; free = free }

  pub few_ends : (n : ℕ) (l : LiveCell a.cells a.words.slots n) → l.content.count ≤ width l.class
  few_ends n l = subst (IsCell (width l.class)) (row_at a.cells a.words.slots l.class l.index l.place.0 ∙ l.is) ((h.free l.class).few l.index)

  pub arena_all : length (arena_view a).states ≡ all_of a.cells
  arena_all = view_long a.words.at a.cells a.words.slots

  module _ (v : ArenaView) (e : arena_view a ≡ v) where
    pub inside_all : (n : ℕ) → n < length v.states → n < all_of a.cells
    inside_all n lt = let long = ap (λ (w : ArenaView). length w.states) e in omega (arith, lt, long, arena_all)

    pub live_of : (n : ℕ) → IsLive (state_at v n) → LiveCell a.cells a.words.slots n
    live_of n = live_at a.words.at a.cells a.words.slots v n e

    pub viewed : (words : Cells End) (n : ℕ) (c : CellClass) (i : ℕ) (x y : State) → words.at ≡ a.words.at → IsPlace a.cells n c i → RowsBecome a.cells a.words.slots words.slots c i x → x ≡ y → view_of words.at a.cells words.slots ≡ changed v n y
    viewed words n c i x y same p b f = view_becomes a.words.at words.at a.cells a.cells a.words.slots words.slots n c i x same refl p b ∙ changed_same e refl f

    pub width_of : (n : ℕ) (l : LiveCell a.cells a.words.slots n) (p : ℕ) → p < places (state_at v n) → p < width l.class
    width_of n l p lt =
        let few = few_ends n l in
        omega (arith, lt, ap places (live_state a.words.at a.cells a.words.slots v n e l), places_are l.content l.some (omega (arith, few, content_long a.cells a.words.slots n h.whole l)), few)

    module _ (n : ℕ) (l : LiveCell a.cells a.words.slots n) (words : Cells End) (same : words.at ≡ a.words.at) where
      abbrev there : Spot
      there = spot_at a.cells a.words.slots n l

      live_zero : vacancy (cell_in a.cells a.words.slots l.class l.index) ≡ 0
      live_zero = ap vacancy l.is ∙ filled_count l.content.count l.some

      -- an end is written
      pub end_set : (p : ℕ) (x : End) (k : ℕ) → p < width l.class → k ≡ spot l.class a.cells l.index (slot_of p) → words.slots ≡ set a.words.slots k (Some (Some x)) → IsArena (with_row a words a.lists) × (view_of words.at a.cells words.slots ≡ changed v n (with_end (state_at v n) p x))
      end_set p x k lt at now =
          let y : Content = record { word = l.content.word; count = l.content.count; ends = set l.content.ends p x } in
          let r = end_rewrites a.words words there l.content l.place.0 h.whole l.is same p x lt (now ∙ ap (λ j. set a.words.slots j (Some (Some x))) at) in
          let z = one_put a.cells l.class a.words a.lists h.whole h.free l.index l.place.0 live_zero words (Some (Some y)) r.changes r.cell (filled_count l.content.count l.some) (few_ends n l) in (
            arena_with words a.lists same r.whole z.0,
            viewed words n l.class l.index (state_in y) (with_end (state_at v n) p x) same l.place z.1
                (end_written l.content.word l.content.count l.content.ends p x ∙ ap (λ s. with_end s p x) (sym (live_state a.words.at a.cells a.words.slots v n e l))),
          )

      -- a head is written
      pub head_set : (x : End) (k : ℕ) → IsHead x → 0 < count_in x → count_in x ≤ width l.class → k ≡ spot l.class a.cells l.index head → words.slots ≡ set a.words.slots k (Some (Some x))
          → IsArena (with_row a words a.lists) × ((s : State) × IsBegun (word_in x) (count_in x) s × (view_of words.at a.cells words.slots ≡ changed v n s))
      head_set x k is_head some few at now =
          let y : Content = record { word = word_in x; count = count_in x; ends = l.content.ends } in
          let r = head_rewrites a.words words there l.content l.place.0 h.whole l.is same x is_head (now ∙ ap (λ j. set a.words.slots j (Some (Some x))) at) in
          let z = one_put a.cells l.class a.words a.lists h.whole h.free l.index l.place.0 live_zero words (Some (Some y)) r.changes r.cell (filled_count (count_in x) some) few in (
            arena_with words a.lists same r.whole z.0,
            (state_in y, begun y some (omega (arith, few, content_long a.cells a.words.slots n h.whole l)), viewed words n l.class l.index (state_in y) (state_in y) same l.place z.1 refl),
          )

-- ---- a cell at a place that is known

abbrev pub live_in_place : (at : Ptr) (cells : CellCounts) (ws : List Word) (v : ArenaView) (n : ℕ) (c : CellClass) (i : ℕ) → view_of at cells ws ≡ v → IsPlace cells n c i → IsLive (state_at v n) → LiveCell cells ws n
live_in_place at cells ws v n c i e p live =
    let there : IsLive (state_of (cell_in cells ws c i)) = subst IsLive (state_is at cells ws n c i p) (subst (λ a. IsLive (state_at a n)) (sym e) live) in
    let x = live_cell (cell_in cells ws c i) there in
    record { class = c; index = i; place = p; content = x.0; is = x.1; some = live_some x.0.count x.0.word x.0.ends (subst IsLive (ap state_of x.1) there) }

module _ (a : Inside) (h : IsArena a) (v : ArenaView) (e : arena_view a ≡ v) where
  -- a live cell becomes the first free one
  pub freed_in : (n : ℕ) (l : LiveCell a.cells a.words.slots n) (words : Cells End) (lists : FreeLists) (x : End) (k : ℕ) → words.at ≡ a.words.at → x ≡ Cell (record { 0 = (list_in a.lists l.class).next }) 0 → k ≡ spot l.class a.cells l.index head → words.slots ≡ set a.words.slots k (Some (Some x))
      → list_in lists l.class ≡ list_with l.index (list_in a.lists l.class).fresh ((list_in a.lists l.class).free + 1) → ((d : CellClass) → d ≢ l.class → list_in lists d ≡ list_in a.lists d)
      → IsArena (with_row a words lists) × (view_of words.at a.cells words.slots ≡ changed v n Vacant)
  freed_in n l words lists x k same is at now own others =
      let y : End = Cell (record { 0 = (list_in a.lists l.class).next }) 0 in
      let r = head_rewrites a.words words (spot_at a.cells a.words.slots n l) l.content l.place.0 h.whole l.is same y tt (now ∙ ap (λ j. set a.words.slots j (Some (Some x))) at ∙ ap (λ z. set a.words.slots (spot l.class a.cells l.index head) (Some (Some z))) is) in
      let z = one_freed a.cells l.class a.words a.lists h.whole h.free l.index l.place.0 (ap vacancy l.is ∙ filled_count l.content.count l.some) words lists (record { word = (list_in a.lists l.class).next; count = 0; ends = l.content.ends }) r.changes r.cell refl refl own others in
      (arena_with a h words lists same r.whole z.0, viewed a h v e words n l.class l.index Vacant Vacant same l.place z.1 refl)

  -- .. another owner's cell is back
  pub back_in : (n : ℕ) (at : Spot) (words : Cells End) (lists : FreeLists) (x : State) → at.cells ≡ a.cells → n ≡ first_of at.cells at.class + at.index → at.index < amount at.cells at.class → words.at ≡ a.words.at → AreWhole at.cells words.slots → EachListsFree at.cells words.slots lists → RowsBecome at.cells a.words.slots words.slots at.class at.index x
      → IsArena (with_row a words lists) × (view_of words.at a.cells words.slots ≡ changed v n x)
  back_in n at words lists x many num inside same whole free become = (
    arena_with a h words lists same (subst (λ k. AreWhole k words.slots) many whole) (subst (λ k. EachListsFree k words.slots lists) many free),
    viewed a h v e words n at.class at.index x x same (subst (λ k. IsPlace k n at.class at.index) many (inside, num)) (subst (λ k. RowsBecome k a.words.slots words.slots at.class at.index x) many become) refl,
  )

  -- after the first free cell of a class was looked for
  pub ready_in : (c : CellClass) (words : Cells End) (lists : FreeLists) → MakesReady a.cells c a.words a.lists true words lists → IsArena (with_row a words lists) × (arena_view (with_row a words lists) ≡ v) × ((list_in lists c).next ≢ amount a.cells c)
  ready_in c words lists r = (arena_with a h words lists r.0 r.1 r.2, view_stays a.words.at words.at a.cells a.words.slots words.slots r.0 r.3 ∙ e, r.4)

  pub none_ready_in : (c : CellClass) (words : Cells End) (lists : FreeLists) → MakesReady a.cells c a.words a.lists false words lists → (free_of v c ≡ 0) × (view_of words.at a.cells words.slots ≡ v)
  none_ready_in c words lists r = (ap (λ w. free_of w c) (sym e) ∙ free_in a.words.at a.cells a.words.slots c ∙ r.2, ap (λ (w : Cells End). view_of w.at a.cells w.slots) r.0 ∙ e)

  -- a cell that was never used is live
  pub new_in : (c : CellClass) (head_ : End) (symbol count : ℕ) (n : CellNo) (words : Cells End) (lists : FreeLists) → head_ ≡ Cell (record { 0 = symbol }) count → Holds c count → BeginsNewCell a.cells c head_ a.words a.lists n words lists
      → IsArena (with_row a words lists) × BeginsCell c symbol count v n.0 (view_of words.at a.cells words.slots)
  new_in c head_ symbol count n words lists is holds b =
      let x : Content = record { word = symbol; count = count; ends = b.ends } in let many = holds.1 in
      let rows = subst (λ y. RowsBecome a.cells a.words.slots words.slots c b.index (state_in (record { word = word_in y; count = count_in y; ends = b.ends }))) is b.rows in (
        arena_with a h words lists b.same b.whole b.free,
        record {
          at = subst (λ m. IsNumberOf m c n.0) (ap (λ (w : ArenaView). w.cells) e) (number_of_place a.cells n.0 c b.index b.place);
          was = ap (λ w. state_at w n.0) (sym e) ∙ state_is a.words.at a.cells a.words.slots n.0 c b.index b.place ∙ b.was;
          state = state_in x;
          begun = begun x (held_some c count holds) (omega (arith, many, b.long));
          arena = viewed a h v e words n.0 c b.index (state_in x) (state_in x) b.same b.place rows refl;
        },
      )

  -- .. or none is free
  pub none_new_in : (c : CellClass) (head_ : End) (words : Cells End) (lists : FreeLists) → BeginsNew a.cells c head_ a.words a.lists None words lists → (free_of v c ≡ 0) × (view_of words.at a.cells words.slots ≡ v)
  none_new_in c head_ words lists r = (ap (λ w. free_of w c) (sym e) ∙ free_in a.words.at a.cells a.words.slots c ∙ r.2, ap (λ (w : Cells End). view_of w.at a.cells w.slots) r.0 ∙ e)

  -- the first free cell of a class is live
  module _ (c : CellClass) (some : (list_in a.lists c).next ≢ amount a.cells c) where
    abbrev i : ℕ
    i = (list_in a.lists c).next

    pub first_inside : i < amount a.cells c
    first_inside = first_below a.cells c a.words a.lists h.whole h.free some

    pub first_head : (x : End) × (word_at a.cells a.words.slots c i head ≡ Some (Some x))
    first_head = (all_filled a.cells a.words.slots c i (first a.cells c a.words a.lists h.whole h.free some).cell (h.whole.each c i first_inside) (first_cell a.cells c a.words a.lists h.whole h.free some)).0 head (head_inside c)

    -- its head names the next one
    pub first_next : (x : End) (k : ℕ) → word_at a.cells a.words.slots c i head ≡ Some (Some x) → ((d : CellNo) (p : ℕ) → x ≡ Cell d p → k ≡ d.0) → k ≡ (first a.cells c a.words a.lists h.whole h.free some).cell.word
    first_next x k at is =
        let p = first a.cells c a.words a.lists h.whole h.free some in let there = first_cell a.cells c a.words a.lists h.whole h.free some in
        let f = all_filled a.cells a.words.slots c i p.cell (h.whole.each c i first_inside) there in
        number_of_head x k (subst (λ w. IsHead (end_of w)) at f.1) is ∙ (head_is a.cells a.words.slots c i p.cell x there at).0

    -- .. as an end at its principal port
    pub first_free_head : (x : End) → word_at a.cells a.words.slots c i head ≡ Some (Some x) → x ≡ Cell (record { 0 = (first a.cells c a.words a.lists h.whole h.free some).cell.word }) 0
    first_free_head x at =
        let p = first a.cells c a.words a.lists h.whole h.free some in let there = first_cell a.cells c a.words a.lists h.whole h.free some in
        let f = all_filled a.cells a.words.slots c i p.cell (h.whole.each c i first_inside) there in let says = head_is a.cells a.words.slots c i p.cell x there at in
        named x (subst (λ w. IsHead (end_of w)) at f.1) ∙ ap (λ m. Cell (record { 0 = m }) (count_in x)) says.0 ∙ ap (Cell (record { 0 = p.cell.word })) (says.1 ∙ p.free)
      where
        named : (x : End) → IsHead x → x ≡ Cell (record { 0 = word_in x }) (count_in x)
        named (Cell s n) is = refl
        named (Free k) is = absurd is

    pub begun_in : (n : ℕ) (words : Cells End) (lists : FreeLists) (x : End) (k : ℕ) (symbol count : ℕ) → IsPlace a.cells n c i → words.at ≡ a.words.at → x ≡ Cell (record { 0 = symbol }) count → 0 < count → count ≤ width c → words.slots ≡ set a.words.slots (spot c a.cells i head) (Some (Some x))
        → k ≡ (first a.cells c a.words a.lists h.whole h.free some).cell.word → list_in lists c ≡ list_with k (list_in a.lists c).fresh ((list_in a.lists c).free - 1) → ((d : CellClass) → d ≢ c → list_in lists d ≡ list_in a.lists d)
        → IsArena (with_row a words lists) × BeginsCell c symbol count v n (view_of words.at a.cells words.slots)
    begun_in n words lists x k symbol count p same is one few now next own others =
        let y : End = Cell (record { 0 = symbol }) count in let first_ = first a.cells c a.words a.lists h.whole h.free some in let there = first_cell a.cells c a.words a.lists h.whole h.free some in
        let s : Spot = record { class = c; index = i; cells = a.cells } in
        let r = head_rewrites a.words words s first_.cell first_inside h.whole there same y tt (now ∙ ap (λ z. set a.words.slots (spot c a.cells i head) (Some (Some z))) is) in
        let new : Content = record { word = symbol; count = count; ends = first_.cell.ends } in
        let z = first_begun a.cells c a.words a.lists h.whole h.free some words lists new r.changes r.cell one few (own ∙ ap (λ m. list_with m (list_in a.lists c).fresh ((list_in a.lists c).free - 1)) next) others in
        let f = all_filled a.cells a.words.slots c i first_.cell (h.whole.each c i first_inside) there in let hd = f.0 head (head_inside c) in
        let long : length first_.cell.ends ≡ width c = ap length (sym (head_is a.cells a.words.slots c i first_.cell hd.0 there hd.1).2) ∙ ends_long a.cells a.words.slots c i in (
          arena_with a h words lists same r.whole z.0,
          record {
            at = subst (λ m. IsNumberOf m c n) (ap (λ (w : ArenaView). w.cells) e) (number_of_place a.cells n c i p);
            was = ap (λ w. state_at w n) (sym e) ∙ state_is a.words.at a.cells a.words.slots n c i p ∙ first_vacant a.cells c a.words a.lists h.whole h.free some;
            state = state_in new;
            begun = begun new one (omega (arith, few, long));
            arena = viewed a h v e words n c i (state_in new) (state_in new) same p z.1 refl;
          },
        )

-- ---- the number of free cells, and those that were never used

module _ (a : Inside) (h : IsArena a) where
  pub free_is_count : (c : CellClass) → (list_in a.lists c).free ≡ free_of (arena_view a) c
  free_is_count c =
      let f = h.free c in let few = f.unused.0 in
      omega (arith, f.count, f.all, few) ∙ vacancies_are (row_in a.cells a.words.slots c) ∙ sym (free_in a.words.at a.cells a.words.slots c)

  pub fresh_few : (c : CellClass) → (list_in a.lists c).fresh ≤ amount a.cells c
  fresh_few c = let few = (h.free c).unused.0 in omega (arith, few, row_long a.cells a.words.slots c)

  pub never_used : (c : CellClass) (i : ℕ) → (list_in a.lists c).fresh ≤ i → i < amount a.cells c → cell_in a.cells a.words.slots c i ≡ Some None
  never_used c i le lt = sym (row_at a.cells a.words.slots c i lt) ∙ (h.free c).unused.1 i le (omega (arith, lt, row_long a.cells a.words.slots c))

  pub used_of : (v : ArenaView) → arena_view a ≡ v → (c : CellClass) → IsUsedOf v c (first_of a.cells c + (list_in a.lists c).fresh)
  used_of v e c = subst (λ w. IsUsedOf w c (first_of a.cells c + (list_in a.lists c).fresh)) e (record {
    some = omega arith;
    within = omega (arith, fresh_few c);
    rest = λ n low high. rest n low high c (place c n low high);
  })
    where
      place : (c : CellClass) (n : ℕ) {k : ℕ} → first_of a.cells c + k ≤ n → n < first_of a.cells c + amount a.cells c → (i : ℕ) × IsPlace a.cells n c i × (k ≤ i)
      place c n low high = (n - first_of a.cells c, (omega (arith, low, high), omega (arith, low)), omega (arith, low))

      rest : (n : ℕ) → first_of a.cells c + (list_in a.lists c).fresh ≤ n → n < first_of a.cells c + amount a.cells c → (c' : CellClass) → ((i : ℕ) × IsPlace a.cells n c i × ((list_in a.lists c).fresh ≤ i)) → state_at (arena_view a) n ≡ Vacant
      rest n low high c' p = state_is a.words.at a.cells a.words.slots n c p.0 p.1 ∙ ap state_of (never_used c p.0 p.2 p.1.0)

  -- ---- it ends

  word_here : (v : ArenaView) → arena_view a ≡ v → NoneLeased v → (x : ℕ) → x < length a.words.slots → IsHere a.words.slots x
  word_here v e none x lt =
      let s = all_some a.cells x (omega (arith, lt, h.whole.long)) in let c = s.0 in let i = s.1 in
      let n = first_of a.cells c + i in let p : IsPlace a.cells n c i = (s.3, refl) in
      let inside : n < length v.states = (let long = ap (λ (w : ArenaView). length w.states) e in omega (arith, long, arena_all a h, near_below c a.cells i s.3)) in
      let out : IsLeased (state_of (cell_in a.cells a.words.slots c i)) → ⊥ = λ leased. none n inside (subst IsLeased (sym (ap (λ w. state_at w n) (sym e) ∙ state_is a.words.at a.cells a.words.slots n c i p)) leased) in
      let w = here_of (h.whole.each c i s.3) out s.2 s.4 in (w.0, ap (λ k. get_or a.words.slots k None) s.5 ∙ w.1)
    where
      here_of : {c : CellClass} {i : ℕ} → IsInOneState a.cells a.words.slots c i → (IsLeased (state_of (cell_in a.cells a.words.slots c i)) → ⊥) → (q : ℕ) → q < slots c → (w : Option End) × (word_at a.cells a.words.slots c i q ≡ Some w)
      here_of {c} {i} (Gone gone) out q in_it = absurd (out (subst IsLeased (sym (ap (λ w. state_of (cell_of w (ends_in a.cells a.words.slots c i))) (gone head (head_inside c)))) tt))
      here_of (New fresh) out q in_it = (None, fresh q in_it)
      here_of (Filled all first) out q in_it = let z = all q in_it in (Some z.0, z.1)

  pub all_words_here : (v : ArenaView) → arena_view a ≡ v → NoneLeased v → AreHere a.words.slots
  all_words_here v e none = all_here a.words.slots (word_here v e none)

-- ---- it begins

new_word : (cells : CellCounts) (ws : List Word) (c : CellClass) (i : ℕ) → ws ≡ replicate (words_of cells) (Some None) → i < amount cells c → (q : ℕ) → q < slots c → word_at cells ws c i q ≡ Some None
new_word cells ws c i e lt q in_it = ap (λ l. get_or l (spot c cells i q) None) e ∙ get_or-replicate (words_of cells) (spot c cells i q) (Some None) None (spot_inside c cells i q lt in_it)

new_row_is : (cells : CellCounts) (ws : List Word) (c : CellClass) → ws ≡ replicate (words_of cells) (Some None) → row_in cells ws c ≡ replicate (amount cells c) (Some None)
new_row_is cells ws c e =
    ext_get_or None (row_in cells ws c) (replicate (amount cells c) (Some None)) (row_long cells ws c ∙ sym (length-replicate (amount cells c) (Some None)))
    (λ i lt.
    let inside : i < amount cells c = omega (arith, lt, row_long cells ws c) in
    row_at cells ws c i inside ∙ ap (λ w. cell_of w (ends_in cells ws c i)) (new_word cells ws c i e inside head (head_inside c)) ∙ sym (get_or-replicate (amount cells c) i (Some None) None inside))

pub new_whole : (cells : CellCounts) (ws : List Word) → ws ≡ replicate (words_of cells) (Some None) → AreWhole cells ws
new_whole cells ws e = record { long = ap length e ∙ length-replicate (words_of cells) (Some None); each = λ c i lt. New (new_word cells ws c i e lt) }

pub new_free : (cells : CellCounts) (ws : List Word) (c : CellClass) (l : FreeList) → ws ≡ replicate (words_of cells) (Some None) → l ≡ list_with (amount cells c) 0 (amount cells c) → ListsFree (width c) (row_in cells ws c) l
new_free cells ws c l e is = subst (ListsFree (width c) (row_in cells ws c)) (sym is) (subst (λ xs. ListsFree (width c) xs (list_with (amount cells c) 0 (amount cells c))) (sym (new_row_is cells ws c e)) (new_row (width c) (amount cells c)).0)

pub new_states : (at : Ptr) (cells : CellCounts) (ws : List Word) → ws ≡ replicate (words_of cells) (Some None) → (view_of at cells ws).states ≡ replicate (all_of cells) Vacant
new_states at cells ws e = alike (λ c. at) cells (λ c. states (row_in cells ws c)) Vacant (λ c. ap states (new_row_is cells ws c e) ∙ (new_row (width c) (amount cells c)).1)

-- ---- a cell that was used and is here

pub record UsedCell (cells : CellCounts) (ws : List Word) (c : CellClass) (i : ℕ) : Type 0 where
  pub content : Content
  pub is : cell_in cells ws c i ≡ Some (Some content)
  pub head : End
  pub at : word_at cells ws c i 3 ≡ Some (Some head)
  pub says : (x : End) → word_at cells ws c i 3 ≡ Some (Some x) → (count_in x ≡ content.count) × IsHead x

pub used_here : (a : Inside) (h : IsArena a) (c : CellClass) (i : ℕ) → i < amount a.cells c → i < (list_in a.lists c).fresh → (IsLeased (state_of (cell_in a.cells a.words.slots c i)) → ⊥) → UsedCell a.cells a.words.slots c i
used_here a h c i inside lt out =
    let row = row_at a.cells a.words.slots c i inside in
    let x = used_cell (cell_in a.cells a.words.slots c i) out (λ e. used (width c) (row_in a.cells a.words.slots c) (list_in a.lists c) (h.free c) i lt (row ∙ e)) in
    let f = all_filled a.cells a.words.slots c i x.0 (h.whole.each c i inside) x.1 in let hd = f.0 3 (head_inside c) in
    record { content = x.0; is = x.1; head = hd.0; at = hd.1; says = λ y at. ((head_is a.cells a.words.slots c i x.0 y x.1 at).1, subst (λ w. IsHead (end_of w)) at f.1) }

-- ---- the owner of one cell, and an arena

module _ (a : Inside) (h : IsArena a) (v : ArenaView) (e : arena_view a ≡ v) (l : LeaseInside) (k : IsLease l) (m : LeaseView) (f : lease_view l ≡ m) (of : IsOf m v) where
  pub of_here : IsOf (lease_view l) (arena_view a)
  of_here = is_of_same (sym f) (sym e) of

  abbrev pub owns_one : OwnsOne a.words l.spot l.words
  owns_one =
      let o = of_here in let many = o.cells in
      let p : IsPlace a.cells (lease_view l).number l.spot.class l.spot.index = subst (λ n. IsPlace n (lease_view l).number l.spot.class l.spot.index) many (k.index, refl) in
      record {
        same = o.memory ∙ at_class (λ c. a.words.at) null_ptr l.spot.class;
        index = k.index;
        whole = k.whole;
        alone = k.alone;
        content = k.content;
        cell = k.cell;
        room = k.room;
        out = subst (λ n. cell_in n a.words.slots l.spot.class l.spot.index ≡ None) (sym many)
            (leased_none (cell_in a.cells a.words.slots l.spot.class l.spot.index) (subst IsLeased (sym (sym (state_is a.words.at a.cells a.words.slots (lease_view l).number l.spot.class l.spot.index p) ∙ o.leased)) tt));
      }

  pub lease_many : l.spot.cells ≡ a.cells
  lease_many = of_here.cells

  pub lease_number : m.number ≡ first_of l.spot.cells l.spot.class + l.spot.index
  lease_number = ap (λ (w : LeaseView). w.number) (sym f)

  pub lease_state : m.state ≡ state_in k.content
  lease_state = ap (λ (w : LeaseView). w.state) (sym f) ∙ ap state_of k.cell

-- another owner's cell is here, with its content
pub settled_in : (a : Inside) (h : IsArena a) (v : ArenaView) (e : arena_view a ≡ v) (at : Spot) (one : Cells End) (o : OwnsOne a.words at one) (words : Cells End) (n : ℕ) (x : State) → at.cells ≡ a.cells → n ≡ first_of at.cells at.class + at.index → IsLive (state_in o.content) → words.at ≡ a.words.at → words.slots ≡ together a.words.slots one.slots → state_in o.content ≡ x
    → IsArena (with_row a words a.lists) × (view_of words.at a.cells words.slots ≡ changed v n x)
settled_in a h v e at one o words n x many num live same is named =
    let whole = subst (λ k. AreWhole k a.words.slots) (sym many) h.whole in
    let p = put_in a.words one at o whole words.slots is in
    let free = subst (λ k. EachListsFree k a.words.slots a.lists) (sym many) h.free in
    let z = one_put at.cells at.class a.words a.lists whole free at.index o.index (ap vacancy o.out) words (Some (Some o.content)) p.changes p.cell (filled_count o.content.count (live_some o.content.count o.content.word o.content.ends live)) o.room in
    back_in a h v e n at words a.lists x many num o.index same p.whole z.0 (subst (RowsBecome at.cells a.words.slots words.slots at.class at.index) named z.1)

-- ---- a content that is written through a lease

pub lease_rewrites : (l : LeaseInside) (k : IsLease l) (words : Cells End) (x : Content) → Rewrites l.words l.spot x words → x.count ≤ width l.spot.class → IsLease (record { spot = l.spot; base = l.base; words = words })
lease_rewrites l k words x r few = record {
  few = k.few;
  block = r.same ∙ k.block;
  index = k.index;
  whole = r.whole;
  alone = changes_twice l.spot.cells (replicate (words_of l.spot.cells) None) l.words.slots words.slots l.spot.class l.spot.index k.alone r.changes;
  content = x;
  cell = r.cell;
  room = few;
}

pub lease_written : (l : LeaseInside) (m : LeaseView) (words : Cells End) (x : Content) (s : State) → lease_view l ≡ m → Rewrites l.words l.spot x words → state_in x ≡ s → lease_view (record { spot = l.spot; base = l.base; words = words }) ≡ written m s
lease_written l m words x s f r is =
    (λ z. record { class = l.spot.class; memory = r.same z; cells = l.spot.cells; number = first_of l.spot.cells l.spot.class + l.spot.index; state = (ap state_of r.cell ∙ is) z }) ∙ ap (λ w. written w s) f

pub lease_long : (l : LeaseInside) (k : IsLease l) (x : Content) → cell_in l.spot.cells l.words.slots l.spot.class l.spot.index ≡ Some (Some x) → length x.ends ≡ width l.spot.class
lease_long l k x is =
    let f = all_filled l.spot.cells l.words.slots l.spot.class l.spot.index x (k.whole.each l.spot.class l.spot.index k.index) is in let hd = f.0 3 (head_inside l.spot.class) in
    ap length (sym (head_is l.spot.cells l.words.slots l.spot.class l.spot.index x hd.0 is hd.1).2) ∙ ends_long l.spot.cells l.words.slots l.spot.class l.spot.index

-- a cell with these ends
pub written_state : (symbol : ℕ) (es : List End) (x : Content) → HasContent symbol es x → 0 < length es → state_in x ≡ Live symbol es
written_state symbol es x has some =
    live_written x.word x.count x.ends (subst (λ n. 0 < n) (sym has.count) some) ∙ ap (λ w. Live w (take x.count x.ends)) has.word ∙ ap (λ n. Live symbol (take n x.ends)) has.count ∙ ap (Live symbol) has.ends

-- ---- the first free cell of a class is leased

pub lent_in : (a : Inside) (h : IsArena a) (v : ArenaView) (e : arena_view a ≡ v) (c : CellClass) (some : (list_in a.lists c).next ≢ amount a.cells c) (i : ℕ) → i ≡ (list_in a.lists c).next → (lists : FreeLists) (k : ℕ) → k ≡ (first a.cells c a.words a.lists h.whole h.free some).cell.word
    → list_in lists c ≡ list_with k (list_in a.lists c).fresh ((list_in a.lists c).free - 1) → ((d : CellClass) → d ≢ c → list_in lists d ≡ list_in a.lists d) → (one rest : Cells End)
    → (one.at ≡ a.words.at) × (one.slots ≡ those_of (is_spot c a.cells i) a.words.slots) → (rest.at ≡ a.words.at) × (rest.slots ≡ those_of (but (is_spot c a.cells i)) a.words.slots)
    → let m : LeaseInside = record { spot = (let s : Spot = record { class = c; index = i; cells = a.cells } in s); base = a.base; words = one } in IsLease m × IsArena (with_row a rest lists) × Leases v c (Some (lease_view m)) (view_of rest.at a.cells rest.slots)
lent_in a h v e c some i at lists k next own others one rest parted left =
    let cells = a.cells in let ws = a.words.slots in let there = (first a.cells c a.words a.lists h.whole h.free some).cell in
    let m : LeaseInside = record { spot = (let s : Spot = record { class = c; index = i; cells = cells } in s); base = a.base; words = one } in
    let inside : i < amount cells c = subst (λ j. j < amount cells c) (sym at) (first_below cells c a.words a.lists h.whole h.free some) in
    let is : cell_in cells ws c i ≡ Some (Some there) = ap (cell_in cells ws c) at ∙ first_cell cells c a.words a.lists h.whole h.free some in
    let number = first_of cells c + i in let p : IsPlace cells number c i = (inside, refl) in
    let out = rest_changes cells c i ws in let alone = one_alone cells c i ws h.whole.long in
    let gone = rest_gone cells c i ws in
    let change = subst (λ l. ChangesCell cells ws l c i) (sym left.1) out in
    let none = ap (λ l. cell_in cells l c i) left.1 ∙ rest_cell cells c i ws in
    let z = first_taken cells c a.words a.lists h.whole h.free some rest lists (subst (ChangesCell cells ws rest.slots c) at change) (ap (cell_in cells rest.slots c) (sym at) ∙ none) (own ∙ ap (λ n. list_with n (list_in a.lists c).fresh ((list_in a.lists c).free - 1)) next) others in
    let cell = ap (λ l. cell_in cells l c i) parted.1 ∙ one_cell cells c i ws ∙ is in
    let whole_one : AreWhole cells one.slots = subst (AreWhole cells) (sym parted.1) (still_whole cells (replicate (words_of cells) None) (those_of (is_spot c cells i) ws) c i inside alone (none_whole cells c i) (kept_whole cells ws (those_of (is_spot c cells i) ws) c i (in_one cells c i ws) (h.whole.each c i inside))) in
    let whole_rest = subst (AreWhole cells) (sym left.1) (still_whole cells ws (those_of (but (is_spot c cells i)) ws) c i inside out h.whole gone) in
    let new = viewed a h v e rest number c i Leased Leased left.0 p (subst (λ j. RowsBecome cells ws rest.slots c j Leased) (sym at) z.1) refl in
    let free = first_vacant cells c a.words a.lists h.whole h.free some in
    let many = ap (λ (w : ArenaView). w.cells) e in let num = number_of_place cells number c i p in (
      record {
        few = h.few;
        block = parted.0 ∙ h.block.0;
        index = inside;
        whole = whole_one;
        alone = subst (λ l. ChangesCell cells (replicate (words_of cells) None) l c i) (sym parted.1) alone;
        content = there;
        cell = cell;
        room = (let z : there.count ≡ 0 = (first a.cells c a.words a.lists h.whole h.free some).free in omega (arith, z));
      },
      arena_with a h rest lists left.0 whole_rest z.0,
      (
        refl,
        subst (λ n. IsNumberOf n c number) many num,
        ap (λ w. state_at w number) (sym e) ∙ state_is a.words.at cells ws number c i p ∙ ap (λ j. state_of (cell_in cells ws c j)) at ∙ free,
        new,
        record {
          memory = parted.0 ∙ sym left.0 ∙ sym (at_class (λ d. rest.at) null_ptr c);
          cells = refl;
          number = num;
          leased = ap (λ (w : ArenaView). state_at w number) new ∙ stays v.states number Leased;
        },
        ap state_of cell ∙ vacant_state there (first a.cells c a.words a.lists h.whole h.free some).free,
      ),
    )
