-- A cell that is written again, begun, or given back, in its row.
use Rattle.std.proofs.Common.{◌≡◌, ◌≢◌, ℕ, ◌+◌, ◌-◌, ◌<◌, ◌≤◌, List, length, set, get_or, Some, None, refl, sym, ap, ◌∙◌, subst, ⊎_elim, arith, length-set, get_or-set_same}
use Rattle.std.specs.Prelude.{true, false}
use Rattle.in_memory.specs.Places.{together}
use Rattle.in_memory.specs.declared.cells.Cells.{Cells}
use Rattle.in_arena.specs.Classes.{amount, width}
use Rattle.in_arena.specs.FreeLists.{IsCell, ListsFree, list_in, state_of, states, vacancy}
use Rattle.in_arena.specs.Rows.{EachListsFree, IsFirstWritten, MakesReady, OwnsOne, Rewrites, RowsBecome, RowsStay}
use Rattle.in_arena.specs.States.{Vacant, Leased}
use Rattle.in_arena.specs.Words.{Word, Content, CellWords, slots, head, slot_of, word_in, count_in, IsHead, word_at, cell_in, row_in, IsInOneState, AreWhole, ChangesCell}
use Rattle.in_arena.specs.declared.content.CellClass.{CellClass}
use Rattle.in_arena.specs.declared.content.CellCounts.{CellCounts}
use Rattle.in_arena.specs.declared.content.End.{End}
use Rattle.in_arena.specs.declared.free_list.FreeList.{FreeList}
use Rattle.in_arena.specs.declared.free_list.FreeLists.{FreeLists}
use Rattle.in_arena.specs.declared.spot.Spot.{Spot}
use Rattle.in_arena.specs.declared.content.CellNo.{CellNo}
use Rattle.in_arena.specs.declared.content.End.TheVariants.{Cell}
use Rattle.in_arena.specs.declared.content.End.TheVariants.{Free as FreeEnd}
use Rattle.in_arena.proofs.Filling.{new_of}
use Rattle.in_arena.proofs.FreeLists.{put, taken, filled_count, freed, free_small, first_free, fresh_inside, listed_new, new_begun, next_inside, none_free, set_twice, vacant_state, First, list_with}
use Rattle.in_arena.proofs.Owners.{gone_of, put_changes, put_kept}
use Rattle.in_arena.proofs.Rows.{AllFilled, all_filled, class_cases, head_is, head_now, end_now, one_changes, row_set, row_stays, rows_become, still_whole, whole_now, with_word}
use Rattle.in_arena.proofs.Words.{head_inside, kept_cell, kept_whole, row_at, row_long, slot_inside, slot_no_head}

module _ (words words' : Cells End) (at : Spot) (x : Content) (inside : at.index < amount at.cells at.class) (all : AreWhole at.cells words.slots) (was : cell_in at.cells words.slots at.class at.index ≡ Some (Some x)) (same : words'.at ≡ words.at) where
  abbrev filled : AllFilled at.cells words.slots at.class at.index
  filled = all_filled at.cells words.slots at.class at.index x (all.each at.class at.index inside) was

  -- the head is
  pub head_filled : (h : End) × (word_at at.cells words.slots at.class at.index head ≡ Some (Some h))
  head_filled = filled.0 head (head_inside at.class)

  pub place_filled : (p : ℕ) → p < width at.class → (e : End) × (word_at at.cells words.slots at.class at.index (slot_of p) ≡ Some (Some e))
  place_filled p lt = filled.0 (slot_of p) (slot_inside at.class p lt)

  pub head_rewrites : (e : End) → IsHead e → words'.slots ≡ with_word at.cells words.slots at.class at.index head e → Rewrites words at (record { word = word_in e; count = count_in e; ends = x.ends }) words'
  head_rewrites e is_head now =
      let ws = words.slots in let new = with_word at.cells ws at.class at.index head e in
      let change = one_changes at.cells ws at.class at.index head e all.long inside (head_inside at.class) in
      let h = head_filled in
      record {
        same = same;
        whole = subst (AreWhole at.cells) (sym now) (still_whole at.cells ws new at.class at.index inside change all (whole_now at.cells ws at.class at.index head e all.long inside (head_inside at.class) filled (λ z. is_head)));
        changes = subst (λ l. ChangesCell at.cells ws l at.class at.index) (sym now) change;
        cell = ap (λ l. cell_in at.cells l at.class at.index) now ∙ head_now at.cells ws at.class at.index e all.long inside
            ∙ ap (λ es. Some (Some (let y : Content = record { word = word_in e; count = count_in e; ends = es } in y))) (head_is at.cells ws at.class at.index x h.0 was h.1).2;
      }

  pub end_rewrites : (p : ℕ) (e : End) → p < width at.class → words'.slots ≡ with_word at.cells words.slots at.class at.index (slot_of p) e → Rewrites words at (record { word = x.word; count = x.count; ends = set x.ends p e }) words'
  end_rewrites p e lt now =
      let ws = words.slots in let in_it = slot_inside at.class p lt in let new = with_word at.cells ws at.class at.index (slot_of p) e in
      let change = one_changes at.cells ws at.class at.index (slot_of p) e all.long inside in_it in
      record {
        same = same;
        whole = subst (AreWhole at.cells) (sym now) (still_whole at.cells ws new at.class at.index inside change all (whole_now at.cells ws at.class at.index (slot_of p) e all.long inside in_it filled (λ z. absurd (slot_no_head p z))));
        changes = subst (λ l. ChangesCell at.cells ws l at.class at.index) (sym now) change;
        cell = ap (λ l. cell_in at.cells l at.class at.index) now ∙ end_now at.cells ws at.class at.index p e x all.long inside lt was;
      }

-- ---- the lists of free cells

-- those of the class of the cell are these; the others are as they were
pub lists_become : (cells : CellCounts) (old new : List Word) (c : CellClass) (i : ℕ) (s : CellWords) (lists lists' : FreeLists) (inside : i < amount cells c) → ChangesCell cells old new c i → cell_in cells new c i ≡ s → EachListsFree cells old lists
    → ListsFree (width c) (set (row_in cells old c) i s) (list_in lists' c) → ((d : CellClass) → d ≢ c → list_in lists' d ≡ list_in lists d) → EachListsFree cells new lists'
lists_become cells old new c i s lists lists' inside change now free own others d =
    ⊎_elim
    (λ (e : d ≡ c). subst (λ k. ListsFree (width k) (row_in cells new k) (list_in lists' k)) (sym e) (subst (λ xs. ListsFree (width c) xs (list_in lists' c)) (sym (row_set cells old new c i inside change s now)) own))
    (λ (e : d ≢ c). subst (λ l. ListsFree (width d) (row_in cells new d) l) (sym (others d e)) (subst (λ xs. ListsFree (width d) xs (list_in lists d)) (sym (row_stays cells old new c i inside change d e)) (free d)))
    (class_cases d c)

-- ---- rows that stay

pub rows_stay : (cells : CellCounts) (old new : List Word) (c : CellClass) (i : ℕ) (s : CellWords) (inside : i < amount cells c) → ChangesCell cells old new c i → cell_in cells new c i ≡ s → states (set (row_in cells old c) i s) ≡ states (row_in cells old c) → RowsStay cells old new
rows_stay cells old new c i s inside change now same d =
    ⊎_elim
    (λ (e : d ≡ c). subst (λ k. states (row_in cells new k) ≡ states (row_in cells old k)) (sym e) (ap states (row_set cells old new c i inside change s now) ∙ same))
    (λ (e : d ≢ c). ap states (row_stays cells old new c i inside change d e))
    (class_cases d c)

-- ---- the first cell that was never used

pub fresh_below : (cells : CellCounts) (ws : List Word) (c : CellClass) (l : FreeList) → ListsFree (width c) (row_in cells ws c) l → (l.fresh ≡ amount cells c → ⊥) → l.fresh < amount cells c
fresh_below cells ws c l h some = let lt = fresh_inside (width c) (row_in cells ws c) l h (λ e. some (e ∙ row_long cells ws c)) in omega (arith, lt, row_long cells ws c)

pub fresh_new : (cells : CellCounts) (ws : List Word) (c : CellClass) (l : FreeList) → AreWhole cells ws → ListsFree (width c) (row_in cells ws c) l → (l.fresh ≡ amount cells c → ⊥) → (q : ℕ) → q < slots c → word_at cells ws c l.fresh q ≡ Some None
fresh_new cells ws c l all h some =
    let inside = fresh_below cells ws c l h some in
    new_of cells ws c l.fresh (all.each c l.fresh inside) (sym (row_at cells ws c l.fresh inside) ∙ h.unused.1 l.fresh (omega arith) (omega (arith, inside, row_long cells ws c)))

module _ (cells : CellCounts) (c : CellClass) (words : Cells End) (lists : FreeLists) (all : AreWhole cells words.slots) (free : EachListsFree cells words.slots lists) where
  abbrev l : FreeList
  l = list_in lists c

  abbrev xs : List CellWords
  xs = row_in cells words.slots c

  long : length xs ≡ amount cells c
  long = row_long cells words.slots c

  pub none_ready : l.next ≡ amount cells c → l.fresh ≡ amount cells c → MakesReady cells c words lists false words lists
  none_ready empty used = (refl, refl, none_free (width c) xs l (free c) (empty ∙ sym long) (used ∙ sym long))

  pub still_ready : (l.next ≡ amount cells c → ⊥) → MakesReady cells c words lists true words lists
  still_ready some = (refl, all, free, λ d. refl, some)

  pub listed_ready : (words' : Cells End) (lists' : FreeLists) (x : Content) → l.next ≡ amount cells c → (l.fresh ≡ amount cells c → ⊥) → words'.at ≡ words.at → IsInOneState cells words'.slots c l.fresh → ChangesCell cells words.slots words'.slots c l.fresh
      → cell_in cells words'.slots c l.fresh ≡ Some (Some x) → x.count ≡ 0 → x.word ≡ amount cells c → list_in lists' c ≡ list_with l.fresh (l.fresh + 1) l.free → ((d : CellClass) → d ≢ c → list_in lists' d ≡ list_in lists d) → MakesReady cells c words lists true words' lists'
  listed_ready words' lists' x empty some same whole change now ends_zero last own others =
      let inside = fresh_below cells words.slots c l (free c) some in
      let z = listed_new (width c) xs l x (free c) (empty ∙ sym long) (λ e. some (e ∙ long)) ends_zero (last ∙ sym long) in (
        same,
        still_whole cells words.slots words'.slots c l.fresh inside change all whole,
        lists_become cells words.slots words'.slots c l.fresh (Some (Some x)) lists lists' inside change now free (subst (ListsFree (width c) (set xs l.fresh (Some (Some x)))) (sym own) z.0) others,
        rows_stay cells words.slots words'.slots c l.fresh (Some (Some x)) inside change now z.1,
        λ e. (let at = ap (λ (k : FreeList). k.next) own in omega (arith, at, e, inside)),
      )

  -- the first cell that was never used is live from now on
  module _ (some : l.fresh ≡ amount cells c → ⊥) where
    fresh_inside_row : l.fresh ≡ length xs → ⊥
    fresh_inside_row e = some (e ∙ long)

    pub new_free : 1 ≤ l.free
    new_free = let count = (free c).count in let inside = fresh_inside (width c) xs l (free c) fresh_inside_row in omega (arith, count, inside)

    pub new_live : (words' : Cells End) (lists' : FreeLists) (h : End) (w : IsFirstWritten words (record { class = c; index = l.fresh; cells = cells }) h words') → 0 < count_in h → count_in h ≤ width c
        → list_in lists' c ≡ list_with l.next (l.fresh + 1) (l.free - 1) → ((d : CellClass) → d ≢ c → list_in lists' d ≡ list_in lists d)
        → AreWhole cells words'.slots × EachListsFree cells words'.slots lists' × RowsBecome cells words.slots words'.slots c l.fresh (state_of (Some (Some (record { word = word_in h; count = count_in h; ends = w.ends }))))
    new_live words' lists' h w filled room own others =
        let x : Content = record { word = word_in h; count = count_in h; ends = w.ends } in
        let inside = fresh_below cells words.slots c l (free c) some in (
          still_whole cells words.slots words'.slots c l.fresh inside w.changes all w.state,
          lists_become cells words.slots words'.slots c l.fresh (Some (Some x)) lists lists' inside w.changes w.cell free (subst (ListsFree (width c) (set xs l.fresh (Some (Some x)))) (sym own) (new_begun (width c) xs l x (free c) fresh_inside_row filled room)) others,
          rows_become cells words.slots words'.slots c l.fresh inside w.changes (Some (Some x)) w.cell,
        )

  -- ---- the first free cell

  module _ (some : l.next ≢ amount cells c) where
    pub first : First xs l.next (free c).free
    first = first_free (width c) xs l (free c) (λ e. some (e ∙ long))

    pub first_below : l.next < amount cells c
    first_below = let lt = first.inside in omega (arith, lt, long)

    pub first_cell : cell_in cells words.slots c l.next ≡ Some (Some first.cell)
    first_cell = sym (row_at cells words.slots c l.next first_below) ∙ first.here

    pub first_vacant : state_of (cell_in cells words.slots c l.next) ≡ Vacant
    first_vacant = ap state_of first_cell ∙ vacant_state first.cell first.free

    pub free_some : 1 ≤ l.free
    free_some = let f = free c in let few = f.unused.0 in let more = ap length first.is in omega (arith, f.count, few, more)

    -- it is another owner's from now on
    pub first_taken : (words' : Cells End) (lists' : FreeLists) → ChangesCell cells words.slots words'.slots c l.next → cell_in cells words'.slots c l.next ≡ None → list_in lists' c ≡ list_with first.cell.word l.fresh (l.free - 1) → ((d : CellClass) → d ≢ c → list_in lists' d ≡ list_in lists d)
        → EachListsFree cells words'.slots lists' × RowsBecome cells words.slots words'.slots c l.next Leased
    first_taken words' lists' change now own others = (
      lists_become cells words.slots words'.slots c l.next None lists lists' first_below change now free (subst (ListsFree (width c) (set xs l.next None)) (sym own) (taken (width c) xs l (free c) first)) others,
      rows_become cells words.slots words'.slots c l.next first_below change None now,
    )

    -- it is live from now on
    pub first_begun : (words' : Cells End) (lists' : FreeLists) (x : Content) → ChangesCell cells words.slots words'.slots c l.next → cell_in cells words'.slots c l.next ≡ Some (Some x) → 0 < x.count → x.count ≤ width c → list_in lists' c ≡ list_with first.cell.word l.fresh (l.free - 1)
        → ((d : CellClass) → d ≢ c → list_in lists' d ≡ list_in lists d) → EachListsFree cells words'.slots lists' × RowsBecome cells words.slots words'.slots c l.next (state_of (Some (Some x)))
    first_begun words' lists' x change now one few own others =
        let i = l.next in let out = set xs i None in let p = first in
        let again = put (width c) out (list_with p.cell.word l.fresh (l.free - 1)) i (Some (Some x)) (taken (width c) xs l (free c) p) (omega (arith, length-set xs i None, p.inside)) (ap vacancy (get_or-set_same xs i None None p.inside)) (filled_count x.count one) few in (
          lists_become cells words.slots words'.slots c i (Some (Some x)) lists lists' first_below change now free (subst (ListsFree (width c) (set xs i (Some (Some x)))) (sym own) (subst (λ ys. ListsFree (width c) ys (list_with p.cell.word l.fresh (l.free - 1))) (set_twice xs i None (Some (Some x))) again)) others,
          rows_become cells words.slots words'.slots c i first_below change (Some (Some x)) now,
        )

  -- ---- a cell that isn't free

  module _ (i : ℕ) (inside : i < amount cells c) (before : vacancy (cell_in cells words.slots c i) ≡ 0) where
    was : vacancy (get_or xs i None) ≡ 0
    was = ap vacancy (row_at cells words.slots c i inside) ∙ before

    within : i < length xs
    within = omega (arith, inside, long)

    -- it becomes another one that isn't
    pub one_put : (words' : Cells End) (s : CellWords) → ChangesCell cells words.slots words'.slots c i → cell_in cells words'.slots c i ≡ s → vacancy s ≡ 0 → IsCell (width c) s → EachListsFree cells words'.slots lists × RowsBecome cells words.slots words'.slots c i (state_of s)
    one_put words' s change now after few = (
      lists_become cells words.slots words'.slots c i s lists lists inside change now free (put (width c) xs l i s (free c) within was after few) (λ d other. refl),
      rows_become cells words.slots words'.slots c i inside change s now,
    )

    -- it becomes the first free one
    pub one_freed : (words' : Cells End) (lists' : FreeLists) (x : Content) → ChangesCell cells words.slots words'.slots c i → cell_in cells words'.slots c i ≡ Some (Some x) → x.count ≡ 0 → x.word ≡ l.next → list_in lists' c ≡ list_with i l.fresh (l.free + 1)
        → ((d : CellClass) → d ≢ c → list_in lists' d ≡ list_in lists d) → EachListsFree cells words'.slots lists' × RowsBecome cells words.slots words'.slots c i Vacant
    one_freed words' lists' x change now ends_zero next own others = (
      lists_become cells words.slots words'.slots c i (Some (Some x)) lists lists' inside change now free (subst (ListsFree (width c) (set xs i (Some (Some x)))) (sym own) (freed (width c) xs l i x (free c) within was ends_zero next)) others,
      subst (RowsBecome cells words.slots words'.slots c i) (vacant_state x ends_zero) (rows_become cells words.slots words'.slots c i inside change (Some (Some x)) now),
    )

  pub free_few : l.free ≤ amount cells c
  free_few = let few = free_small (width c) xs l (free c) in omega (arith, few, long)

  pub next_few : l.next ≤ amount cells c
  next_few = let few = next_inside (width c) xs l (free c) in omega (arith, few, long)

-- the number that a head names
pub number_of_head : (h : End) (n : ℕ) → IsHead h → ((c : CellNo) (p : ℕ) → h ≡ Cell c p → n ≡ c.0) → n ≡ word_in h
number_of_head (Cell c p) n is at = at c p refl
number_of_head (FreeEnd k) n is at = absurd is

-- .. and the number of ends
pub count_of_head : (h : End) (n : ℕ) → IsHead h → ((c : CellNo) (p : ℕ) → h ≡ Cell c p → n ≡ p) → n ≡ count_in h
count_of_head (Cell c p) n is at = at c p refl
count_of_head (FreeEnd k) n is at = absurd is

-- ---- another owner's cell is put back

pub record IsPutIn (words : Cells End) (at : Spot) (x : Content) (ws : List Word) : Type 0 where
  pub whole : AreWhole at.cells ws
  pub changes : ChangesCell at.cells words.slots ws at.class at.index
  pub cell : cell_in at.cells ws at.class at.index ≡ Some (Some x)

pub put_in : (words one : Cells End) (at : Spot) (o : OwnsOne words at one) → AreWhole at.cells words.slots → (ws : List Word) → ws ≡ together words.slots one.slots → IsPutIn words at o.content ws
put_in words one at o all ws is =
    let cells = at.cells in let c = at.class in let i = at.index in
    let long : length words.slots ≡ length one.slots = all.long ∙ sym o.whole.long in
    let gone = gone_of cells words.slots c i (all.each c i o.index) o.out in
    let kept = put_kept cells c i words.slots one.slots long gone in
    let change = put_changes cells c i words.slots one.slots long o.alone in
    subst (IsPutIn words at o.content) (sym is) (record {
      whole = still_whole cells words.slots (together words.slots one.slots) c i o.index change all (kept_whole cells one.slots (together words.slots one.slots) c i kept (o.whole.each c i o.index));
      changes = change;
      cell = kept_cell cells one.slots (together words.slots one.slots) c i kept ∙ o.cell;
    })
