-- A row after a change of the words of one cell.
use Rattle.std.proofs.Common.{◌≡◌, ◌≢◌, ℕ, zero, suc, ◌<◌, ◌⊎◌, List, [], ◌∷◌, length, set, get_or, count_by, Some, None, refl, sym, ap, ◌∙◌, subst, ⊎_elim, inl, inr, arith, length-set, get_or-set_same, get_or-set_other}
use Rattle.std.proofs.lemmas.Bool.{cases_eq}
use Rattle.std.proofs.lemmas.List.{ext_get_or, length-map, map-set}
use Rattle.std.proofs.Math.ListN.{get_or-map}
use denote.RawPtr.{Ptr}
use Rattle.in_arena.specs.Arenas.{changed, free_of, state_at}
use Rattle.in_arena.specs.ByClass.{IsPlace, RowsChange, view_of}
use Rattle.in_arena.specs.Classes.{all_of, amount, class_no, width}
use Rattle.in_arena.specs.FreeLists.{state_of, states}
use Rattle.in_arena.specs.Rows.{RowsBecome}
use Rattle.in_arena.specs.States.{State, is_vacant}
use Rattle.in_arena.specs.Words.{Word, Content, CellWords, spot, slots, head, slot_of, word_in, count_in, IsHead, end_of, cell_of, word_at, ends_in, cell_in, row_in, IsInOneState, Gone, New, Filled, AreWhole, ChangesCell, words_of}
use Rattle.in_arena.specs.declared.content.CellClass.{CellClass}
use Rattle.in_arena.specs.declared.content.CellClass.TheVariants.{Small, Large, Wide}
use Rattle.in_arena.specs.declared.content.CellCounts.{CellCounts}
use Rattle.in_arena.specs.declared.content.End.{End}
use Rattle.in_arena.proofs.Seen.{all_long, at_place, changed_at, free_is}
use Rattle.in_arena.proofs.Words.{apart, end_at_is, ends_long, head_inside, kept_cell, kept_whole, other_kept, row_at, row_long, slot_inside, slot_no_head, slot_one, spot_inside}

-- after x is written at n, x is at n by default x
pub stays : {X : Type 0} (xs : List X) (n : ℕ) (x : X) → get_or (set xs n x) n x ≡ x
stays [] n x = refl
stays (y ∷ xs) zero x = refl
stays (y ∷ xs) (suc n) x = stays xs n x

-- two classes are one or not
pub class_cases : (c d : CellClass) → (c ≡ d) ⊎ (c ≢ d)
class_cases Small Small = inl refl
class_cases Small Large = inr (λ e. absurd (omega (arith, ap class_no e)))
class_cases Small Wide = inr (λ e. absurd (omega (arith, ap class_no e)))
class_cases Large Small = inr (λ e. absurd (omega (arith, ap class_no e)))
class_cases Large Large = inl refl
class_cases Large Wide = inr (λ e. absurd (omega (arith, ap class_no e)))
class_cases Wide Small = inr (λ e. absurd (omega (arith, ap class_no e)))
class_cases Wide Large = inr (λ e. absurd (omega (arith, ap class_no e)))
class_cases Wide Wide = inl refl

-- ---- the cells

module _ (cells : CellCounts) (old new : List Word) (c : CellClass) (i : ℕ) (inside : i < amount cells c) (change : ChangesCell cells old new c i) where
  pub row_set : (s : CellWords) → cell_in cells new c i ≡ s → row_in cells new c ≡ set (row_in cells old c) i s
  row_set s at =
      ext_get_or None (row_in cells new c) (set (row_in cells old c) i s) (row_long cells new c ∙ sym (length-set (row_in cells old c) i s ∙ row_long cells old c))
      (λ j lt.
      let lj : j < amount cells c = omega (arith, lt, row_long cells new c) in
      row_at cells new c j lj ∙ ⊎_elim
      (λ (e : j ≡ i).
      ap (cell_in cells new c) e ∙ at ∙ sym (get_or-set_same (row_in cells old c) i s None (omega (arith, inside, row_long cells old c))) ∙ ap (λ k. get_or (set (row_in cells old c) i s) k None) (sym e))
      (λ (other : j ≢ i).
      kept_cell cells old new c j (other_kept cells old new c c i j inside lj change (λ one. other (sym one.1)))
      ∙ sym (row_at cells old c j lj) ∙ sym (get_or-set_other (row_in cells old c) i j s None other))
      (cases_eq j i))

  pub row_stays : (d : CellClass) → d ≢ c → row_in cells new d ≡ row_in cells old d
  row_stays d other =
      ext_get_or None (row_in cells new d) (row_in cells old d) (row_long cells new d ∙ sym (row_long cells old d))
      (λ j lt.
      let lj : j < amount cells d = omega (arith, lt, row_long cells new d) in
      row_at cells new d j lj ∙ kept_cell cells old new d j (other_kept cells old new c d i j inside lj change (λ one. other (sym one.0))) ∙ sym (row_at cells old d j lj))

  pub rows_become : (s : CellWords) → cell_in cells new c i ≡ s → RowsBecome cells old new c i (state_of s)
  rows_become s at = record {
    row = ap states (row_set s at) ∙ map-set state_of (row_in cells old c) i s;
    others = λ d other. ap states (row_stays d other);
  }

  -- each cell is whole if this one is
  pub still_whole : AreWhole cells old → IsInOneState cells new c i → AreWhole cells new
  still_whole all one = record {
    long = change.long ∙ all.long;
    each = λ d j lj. ⊎_elim
        (λ (e : (c ≡ d) × (i ≡ j)). subst (λ (k : CellClass × ℕ). IsInOneState cells new k.0 k.1) (λ z. (e.0 z, e.1 z)) one)
        (λ (differ : (c ≡ d) × (i ≡ j) → ⊥). kept_whole cells old new d j (other_kept cells old new c d i j inside lj change differ) (all.each d j lj))
        (both c d i j);
  }
    where
      both : (c d : CellClass) (i j : ℕ) → ((c ≡ d) × (i ≡ j)) ⊎ ((c ≡ d) × (i ≡ j) → ⊥)
      both c d i j = ⊎_elim
          (λ (e : c ≡ d). ⊎_elim (λ (f : i ≡ j). inl (e, f)) (λ (f : i ≢ j). inr (λ one. f one.1)) (cases_eq i j))
          (λ (e : c ≢ d). inr (λ one. e one.0))
          (class_cases c d)

-- ---- as contracts see it

rows_map : (cells : CellCounts) (old new : List Word) (c : CellClass) (i : ℕ) (x : State) → RowsBecome cells old new c i x → RowsChange (λ d. states (row_in cells old d)) (λ d. states (row_in cells new d)) c i x
rows_map cells old new Small i x b = λ z. b.row z ∷ b.others Large (λ e. absurd (omega (arith, ap class_no e))) z ∷ b.others Wide (λ e. absurd (omega (arith, ap class_no e))) z ∷ []
rows_map cells old new Large i x b = λ z. b.others Small (λ e. absurd (omega (arith, ap class_no e))) z ∷ b.row z ∷ b.others Wide (λ e. absurd (omega (arith, ap class_no e))) z ∷ []
rows_map cells old new Wide i x b = λ z. b.others Small (λ e. absurd (omega (arith, ap class_no e))) z ∷ b.others Large (λ e. absurd (omega (arith, ap class_no e))) z ∷ b.row z ∷ []

pub states_long : (cells : CellCounts) (ws : List Word) (c : CellClass) → length (states (row_in cells ws c)) ≡ amount cells c
states_long cells ws c = length-map (row_in cells ws c) state_of ∙ row_long cells ws c

pub view_long : (at : Ptr) (cells : CellCounts) (ws : List Word) → length (view_of at cells ws).states ≡ all_of cells
view_long at cells ws = all_long (λ c. at) cells (λ c. states (row_in cells ws c)) (states_long cells ws)

pub state_is : (at : Ptr) (cells : CellCounts) (ws : List Word) (n : ℕ) (c : CellClass) (i : ℕ) → IsPlace cells n c i → state_at (view_of at cells ws) n ≡ state_of (cell_in cells ws c i)
state_is at cells ws n c i p =
    at_place (λ c. at) cells (λ c. states (row_in cells ws c)) (states_long cells ws) n c i p
    ∙ get_or-map state_of (row_in cells ws c) i None ∙ ap state_of (row_at cells ws c i p.0)

pub view_becomes : (at at' : Ptr) (cells cells' : CellCounts) (old new : List Word) (n : ℕ) (c : CellClass) (i : ℕ) (x : State) → at' ≡ at → cells' ≡ cells → IsPlace cells n c i → RowsBecome cells old new c i x → view_of at' cells' new ≡ changed (view_of at cells old) n x
view_becomes at at' cells cells' old new n c i x same many p b =
    (λ z. view_of (same z) (many z) new)
    ∙ changed_at (λ c. at) cells (λ c. states (row_in cells old c)) (states_long cells old) (λ c. at) cells (λ c. states (row_in cells new c)) n c i x p (refl, refl) (rows_map cells old new c i x b)

pub free_in : (at : Ptr) (cells : CellCounts) (ws : List Word) (c : CellClass) → free_of (view_of at cells ws) c ≡ count_by is_vacant (states (row_in cells ws c))
free_in at cells ws c = free_is (λ c. at) cells (λ c. states (row_in cells ws c)) (states_long cells ws) c

-- ---- the words of a cell that is written

abbrev pub AllFilled : CellCounts → List Word → CellClass → ℕ → Type 0
AllFilled cells ws c i = ((r : ℕ) → r < slots c → (d : End) × (word_at cells ws c i r ≡ Some (Some d))) × IsHead (end_of (word_at cells ws c i head))

cell_gone : (w : Word) (es : List End) (x : Content) → w ≡ None → cell_of w es ≡ Some (Some x) → ⊥
cell_gone w es x none at = let f : None ≡ Some (Some x) = sym (ap (λ v. cell_of v es) none) ∙ at in cc

cell_new : (w : Word) (es : List End) (x : Content) → w ≡ Some None → cell_of w es ≡ Some (Some x) → ⊥
cell_new w es x none at = let f : Some None ≡ Some (Some x) = sym (ap (λ v. cell_of v es) none) ∙ at in cc

pub all_filled : (cells : CellCounts) (ws : List Word) (c : CellClass) (i : ℕ) (x : Content) → IsInOneState cells ws c i → cell_in cells ws c i ≡ Some (Some x) → AllFilled cells ws c i
all_filled cells ws c i x (Gone none) at = absurd (cell_gone (word_at cells ws c i head) (ends_in cells ws c i) x (none head (head_inside c)) at)
all_filled cells ws c i x (New fresh) at = absurd (cell_new (word_at cells ws c i head) (ends_in cells ws c i) x (fresh head (head_inside c)) at)
all_filled cells ws c i x (Filled all first) at = (all, first)

word_of_cell : CellWords → ℕ
word_of_cell None = 0
word_of_cell (Some None) = 0
word_of_cell (Some (Some c)) = c.word

count_of_cell : CellWords → ℕ
count_of_cell None = 0
count_of_cell (Some None) = 0
count_of_cell (Some (Some c)) = c.count

ends_of_cell : CellWords → List End
ends_of_cell None = []
ends_of_cell (Some None) = []
ends_of_cell (Some (Some c)) = c.ends

pub same_content : (x y : Content) → Some (Some x) ≡ Some (Some y) → (x.word ≡ y.word) × (x.count ≡ y.count) × (x.ends ≡ y.ends)
unfolding word_of_cell count_of_cell ends_of_cell
same_content x y e = (ap word_of_cell e, ap count_of_cell e, ap ends_of_cell e)

-- the head of such a cell
head_of_content : (w : Word) (es : List End) (x : Content) (h : End) → w ≡ Some (Some h) → cell_of w es ≡ Some (Some x) → (word_in h ≡ x.word) × (count_in h ≡ x.count) × (es ≡ x.ends)
head_of_content w es x h is at = same_content (record { word = word_in h; count = count_in h; ends = es }) x (sym (ap (λ v. cell_of v es) is) ∙ at)

pub head_is : (cells : CellCounts) (ws : List Word) (c : CellClass) (i : ℕ) (x : Content) (h : End) → cell_in cells ws c i ≡ Some (Some x) → word_at cells ws c i head ≡ Some (Some h) → (word_in h ≡ x.word) × (count_in h ≡ x.count) × (ends_in cells ws c i ≡ x.ends)
head_is cells ws c i x h at is = head_of_content (word_at cells ws c i head) (ends_in cells ws c i) x h is at

-- ---- the ends of a cell

ends_same : (cells : CellCounts) (old new : List Word) (c : CellClass) (i : ℕ) → ((p : ℕ) → p < width c → word_at cells new c i (slot_of p) ≡ word_at cells old c i (slot_of p)) → ends_in cells new c i ≡ ends_in cells old c i
ends_same cells old new c i same =
    ext_get_or (end_of None) (ends_in cells new c i) (ends_in cells old c i) (ends_long cells new c i ∙ sym (ends_long cells old c i))
    (λ p lt. let inside : p < width c = omega (arith, lt, ends_long cells new c i) in end_at_is cells new c i p (end_of None) inside ∙ ap end_of (same p inside) ∙ sym (end_at_is cells old c i p (end_of None) inside))

ends_set : (cells : CellCounts) (old new : List Word) (c : CellClass) (i p : ℕ) (e : End) → p < width c → word_at cells new c i (slot_of p) ≡ Some (Some e) → ((r : ℕ) → r < width c → r ≢ p → word_at cells new c i (slot_of r) ≡ word_at cells old c i (slot_of r))
    → ends_in cells new c i ≡ set (ends_in cells old c i) p e
ends_set cells old new c i p e in_p here others =
    let es = ends_in cells old c i in let long = ends_long cells old c i in
    ext_get_or (end_of None) (ends_in cells new c i) (set es p e) (ends_long cells new c i ∙ sym (length-set es p e ∙ long))
    (λ r lt.
    let inside : r < width c = omega (arith, lt, ends_long cells new c i) in
    end_at_is cells new c i r (end_of None) inside ∙ ⊎_elim
    (λ (same : r ≡ p). ap (λ k. end_of (word_at cells new c i (slot_of k))) same ∙ ap end_of here ∙ sym (get_or-set_same es p e (end_of None) (omega (arith, long, in_p))) ∙ ap (λ k. get_or (set es p e) k (end_of None)) (sym same))
    (λ (other : r ≢ p). ap end_of (others r inside other) ∙ sym (end_at_is cells old c i r (end_of None) inside) ∙ sym (get_or-set_other es p r e (end_of None) other))
    (cases_eq r p))

with_ends_set : (w : Word) (es : List End) (x : Content) (p : ℕ) (e : End) → cell_of w es ≡ Some (Some x) → cell_of w (set es p e) ≡ Some (Some (record { word = x.word; count = x.count; ends = set x.ends p e }))
with_ends_set None es x p e at = absurd (cell_gone None es x refl at)
with_ends_set (Some None) es x p e at = absurd (cell_new (Some None) es x refl at)
with_ends_set (Some (Some h)) es x p e at =
    let z = head_of_content (Some (Some h)) es x h refl at in
    (λ k. Some (Some (let y : Content = record { word = z.0 k; count = z.1 k; ends = set (z.2 k) p e } in y)))

-- ---- one word of a cell that is written is written again

-- the words once this is written
abbrev pub with_word : CellCounts → List Word → CellClass → ℕ → ℕ → End → List Word
with_word cells ws c i q e = set ws (spot c cells i q) (Some (Some e))

module _ (cells : CellCounts) (ws : List Word) (c : CellClass) (i q : ℕ) (e : End) (long : length ws ≡ words_of cells) (inside : i < amount cells c) (in_it : q < slots c) where
  abbrev new : List Word
  new = with_word cells ws c i q e

  pub one_changes : ChangesCell cells ws new c i
  one_changes = record {
    long = length-set ws (spot c cells i q) (Some (Some e));
    others = λ x apart_. get_or-set_other ws (spot c cells i q) x (Some (Some e)) None (apart_ q in_it);
  }

  within : spot c cells i q < length ws
  within = omega (arith, long, spot_inside c cells i q inside in_it)

  pub here_now : word_at cells new c i q ≡ Some (Some e)
  here_now = get_or-set_same ws (spot c cells i q) (Some (Some e)) None within

  pub elsewhere : (r : ℕ) → r < slots c → r ≢ q → word_at cells new c i r ≡ word_at cells ws c i r
  elsewhere r in_r other = get_or-set_other ws (spot c cells i q) (spot c cells i r) (Some (Some e)) None (λ same. other (apart c c cells i i r q inside inside in_r in_it same).2)

  -- it stays whole if it was written
  pub whole_now : AllFilled cells ws c i → (q ≡ head → IsHead e) → IsInOneState cells new c i
  whole_now f first = Filled
      (λ r in_r. ⊎_elim
      (λ (same : r ≡ q). (e, ap (λ k. word_at cells new c i k) same ∙ here_now))
      (λ (other : r ≢ q). let d = f.0 r in_r in (d.0, elsewhere r in_r other ∙ d.1))
      (cases_eq r q))
      (⊎_elim
      (λ (same : q ≡ head). subst (λ w. IsHead (end_of w)) (sym (ap (λ k. word_at cells new c i k) (sym same) ∙ here_now)) (first same))
      (λ (other : q ≢ head). subst (λ w. IsHead (end_of w)) (sym (elsewhere head (head_inside c) (λ z. other (sym z)))) f.1)
      (cases_eq q head))

-- a new head
pub head_now : (cells : CellCounts) (ws : List Word) (c : CellClass) (i : ℕ) (e : End) → length ws ≡ words_of cells → i < amount cells c → cell_in cells (with_word cells ws c i head e) c i ≡ Some (Some (record { word = word_in e; count = count_in e; ends = ends_in cells ws c i }))
head_now cells ws c i e long inside =
    let ws' = with_word cells ws c i head e in
    ap (λ w. cell_of w (ends_in cells ws' c i)) (here_now cells ws c i head e long inside (head_inside c))
    ∙ ap (λ es. Some (Some (let x : Content = record { word = word_in e; count = count_in e; ends = es } in x)))
    (ends_same cells ws ws' c i (λ p lt. elsewhere cells ws c i head e long inside (head_inside c) (slot_of p) (slot_inside c p lt) (slot_no_head p)))

-- another end at a place
pub end_now : (cells : CellCounts) (ws : List Word) (c : CellClass) (i p : ℕ) (e : End) (x : Content) → length ws ≡ words_of cells → i < amount cells c → p < width c → cell_in cells ws c i ≡ Some (Some x)
    → cell_in cells (with_word cells ws c i (slot_of p) e) c i ≡ Some (Some (record { word = x.word; count = x.count; ends = set x.ends p e }))
end_now cells ws c i p e x long inside lt at =
    let ws' = with_word cells ws c i (slot_of p) e in let in_it = slot_inside c p lt in
    ap (λ w. cell_of w (ends_in cells ws' c i)) (elsewhere cells ws c i (slot_of p) e long inside in_it head (head_inside c) (λ z. slot_no_head p (sym z)))
    ∙ ap (cell_of (word_at cells ws c i head)) (ends_set cells ws ws' c i p e lt (here_now cells ws c i (slot_of p) e long inside in_it)
    (λ r in_r other. elsewhere cells ws c i (slot_of p) e long inside in_it (slot_of r) (slot_inside c r in_r) (λ z. other (slot_one r p z))))
    ∙ with_ends_set (word_at cells ws c i head) (ends_in cells ws c i) x p e at
