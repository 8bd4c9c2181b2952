-- A cell whose words are written one after another.
use Rattle.std.proofs.Common.{◌≡◌, ◌≢◌, ℕ, zero, suc, ◌+◌, ◌<◌, ◌⊎◌, List, [], ◌∷◌, ◌++◌, length, set, get_or, take, Some, None, refl, sym, ap, ◌∙◌, subst, ⊎_elim, inl, inr, arith, length-set}
use Rattle.std.specs.Prelude.{Option}
use Rattle.std.proofs.lemmas.Bool.{cases_eq, cases_lt}
use Rattle.std.proofs.lemmas.List.{take_more, take_more_set}
use Rattle.in_memory.specs.declared.cells.Cells.{Cells}
use Rattle.in_arena.specs.Classes.{amount, width}
use Rattle.in_arena.specs.Rows.{Rewrites}
use Rattle.in_arena.specs.declared.spot.Spot.{Spot}
use Rattle.in_arena.specs.Words.{Word, Content, slots, head, slot_of, IsHead, end_of, cell_of, word_at, ends_in, cell_in, IsInOneState, Gone, New, Filled, AreWhole, ChangesCell, words_of}
use Rattle.in_arena.specs.declared.content.CellClass.{CellClass}
use Rattle.in_arena.specs.declared.content.CellCounts.{CellCounts}
use Rattle.in_arena.specs.declared.content.End.{End}
use Rattle.in_arena.proofs.Rows.{with_word, here_now, elsewhere, one_changes}
use Rattle.in_arena.proofs.Words.{head_inside, slot_inside, slot_no_head, slot_one}

-- a word of a cell is its head or a place
pub slot_cases : (c : CellClass) (q : ℕ) → q < slots c → (q ≡ head) ⊎ ((p : ℕ) × (p < width c) × (q ≡ slot_of p))
slot_cases c zero lt = inr (0, omega (arith, head_inside c), refl)
slot_cases c (suc zero) lt = inr (1, omega (arith, head_inside c), refl)
slot_cases c (suc (suc zero)) lt = inr (2, omega (arith, head_inside c), refl)
slot_cases c (suc (suc (suc zero))) lt = inl refl
slot_cases c (suc (suc (suc (suc q)))) lt = inr (suc (suc (suc q)), omega (arith, lt), refl)

pub changes_none : (cells : CellCounts) (ws : List Word) (c : CellClass) (i : ℕ) → ChangesCell cells ws ws c i
changes_none cells ws c i = record { long = refl; others = λ x none. refl }

pub changes_twice : (cells : CellCounts) (a b d : List Word) (c : CellClass) (i : ℕ) → ChangesCell cells a b c i → ChangesCell cells b d c i → ChangesCell cells a d c i
changes_twice cells a b d c i f g = record { long = g.long ∙ f.long; others = λ x none. g.others x none ∙ f.others x none }

-- all its words are here, and those of the first places are written
pub record IsFilledTo (cells : CellCounts) (old now : List Word) (c : CellClass) (i to : ℕ) : Type 0 where
  pub change : ChangesCell cells old now c i
  pub here : (q : ℕ) → q < slots c → (w : Option End) × (word_at cells now c i q ≡ Some w)
  pub written : (p : ℕ) → p < to → p < width c → (e : End) × (word_at cells now c i (slot_of p) ≡ Some (Some e))

pub filled_none : (cells : CellCounts) (ws : List Word) (c : CellClass) (i : ℕ) → ((q : ℕ) → q < slots c → word_at cells ws c i q ≡ Some None) → IsFilledTo cells ws ws c i 0
filled_none cells ws c i fresh = record { change = changes_none cells ws c i; here = λ q lt. (None, fresh q lt); written = λ p lt inside. absurd (omega arith) }

pub filled_more : (cells : CellCounts) (old now : List Word) (c : CellClass) (i p : ℕ) (e : End) → length now ≡ words_of cells → i < amount cells c → p < width c → IsFilledTo cells old now c i p → IsFilledTo cells old (with_word cells now c i (slot_of p) e) c i (p + 1)
filled_more cells old now c i p e long inside lt f =
    let in_it = slot_inside c p lt in record {
      change = changes_twice cells old now (with_word cells now c i (slot_of p) e) c i f.change (one_changes cells now c i (slot_of p) e long inside in_it);
      here = λ q in_q. ⊎_elim
          (λ (same : q ≡ slot_of p). (Some e, ap (λ k. word_at cells (with_word cells now c i (slot_of p) e) c i k) same ∙ here_now cells now c i (slot_of p) e long inside in_it))
          (λ (other : q ≢ slot_of p). let w = f.here q in_q in (w.0, elsewhere cells now c i (slot_of p) e long inside in_it q in_q other ∙ w.1))
          (cases_eq q (slot_of p));
      written = λ r below in_r. ⊎_elim
          (λ (same : r ≡ p). (e, ap (λ k. word_at cells (with_word cells now c i (slot_of p) e) c i (slot_of k)) same ∙ here_now cells now c i (slot_of p) e long inside in_it))
          (λ (other : r ≢ p). let w = f.written r (lesser r p below other) in_r in (w.0, elsewhere cells now c i (slot_of p) e long inside in_it (slot_of r) (slot_inside c r in_r) (λ z. other (slot_one r p z)) ∙ w.1))
          (cases_eq r p);
    }
  where
    lesser : (r p : ℕ) → r < p + 1 → r ≢ p → r < p
    lesser r p lt other = ⊎_elim (λ a. a) (λ a. absurd (other (omega arith))) (cases_lt r p)

-- then its head is written
pub filled_all : (cells : CellCounts) (old now : List Word) (c : CellClass) (i : ℕ) (h : End) → length now ≡ words_of cells → i < amount cells c → IsHead h → IsFilledTo cells old now c i (width c) → IsInOneState cells (with_word cells now c i head h) c i × ChangesCell cells old (with_word cells now c i head h) c i
filled_all cells old now c i h long inside is_head f =
    let ws = with_word cells now c i head h in let in_it = head_inside c in
    let at = here_now cells now c i head h long inside in_it in (
      Filled
          (λ q in_q. ⊎_elim
          (λ (same : q ≡ head). (h, ap (λ k. word_at cells ws c i k) same ∙ at))
          (λ p. let w = f.written p.0 p.1 p.1 in (w.0, ap (λ k. word_at cells ws c i k) p.2 ∙ elsewhere cells now c i head h long inside in_it (slot_of p.0) (slot_inside c p.0 p.1) (slot_no_head p.0) ∙ w.1))
          (slot_cases c q in_q))
          (subst (λ w. IsHead (end_of w)) (sym at) is_head),
      changes_twice cells old now ws c i f.change (one_changes cells now c i head h long inside in_it),
    )

-- a cell that was never used
pub new_of : (cells : CellCounts) (ws : List Word) (c : CellClass) (i : ℕ) → IsInOneState cells ws c i → cell_in cells ws c i ≡ Some None → (q : ℕ) → q < slots c → word_at cells ws c i q ≡ Some None
new_of cells ws c i (Gone none) at = absurd (gone_new (word_at cells ws c i head) (ends_in cells ws c i) (none head (head_inside c)) at)
  where
    gone_new : (w : Word) (es : List End) → w ≡ None → cell_of w es ≡ Some None → ⊥
    gone_new w es is at = let f : None ≡ Some (let x : Option Content = None in x) = sym (ap (λ v. cell_of v es) is) ∙ at in cc
new_of cells ws c i (New fresh) at = fresh
new_of cells ws c i (Filled all first) at = let h = all head (head_inside c) in absurd (filled_new (word_at cells ws c i head) (ends_in cells ws c i) h.0 h.1 at)
  where
    filled_new : (w : Word) (es : List End) (h : End) → w ≡ Some (Some h) → cell_of w es ≡ Some None → ⊥
    filled_new w es h is at = let f = sym (ap (λ v. cell_of v es) is) ∙ at in cc

-- ---- the ends of a cell that is written, one after another

pub one_more_end : (places ends : List End) (i : ℕ) (e d : End) → i < length places → i < length ends → e ≡ get_or ends i d → take i places ≡ take i ends → take (i + 1) (set places i e) ≡ take (i + 1) ends
one_more_end places ends i e d room inside is so_far =
    take_more_set places i e room ∙ ap (λ l. l ++ e ∷ []) so_far ∙ ap (λ x. take i ends ++ x ∷ []) is ∙ sym (take_more ends i d inside)

pub rewrites_twice : (a b d : Cells End) (at : Spot) (x y : Content) → Rewrites a at x b → Rewrites b at y d → Rewrites a at y d
rewrites_twice a b d at x y f g = record { same = g.same ∙ f.same; whole = g.whole; changes = changes_twice at.cells a.slots b.slots d.slots at.class at.index f.changes g.changes; cell = g.cell }

-- the first ends are these
pub record IsWrittenTo (words : Cells End) (at : Spot) (ends : List End) (to : ℕ) (now : Cells End) : Type 0 where
  pub content : Content
  pub rewrites : Rewrites words at content now
  pub so_far : take to content.ends ≡ take to ends
  pub long : length content.ends ≡ width at.class

pub written_none : (words : Cells End) (at : Spot) (ends : List End) (x : Content) → AreWhole at.cells words.slots → cell_in at.cells words.slots at.class at.index ≡ Some (Some x) → length x.ends ≡ width at.class → IsWrittenTo words at ends 0 words
written_none words at ends x all is long = record {
  content = x;
  rewrites = record { same = refl; whole = all; changes = changes_none at.cells words.slots at.class at.index; cell = is };
  so_far = refl;
  long = long;
}

pub written_more : (words : Cells End) (at : Spot) (ends : List End) (to : ℕ) (now next : Cells End) (e d : End) (w : IsWrittenTo words at ends to now) → to < length ends → to < width at.class → e ≡ get_or ends to d
    → Rewrites now at (record { word = w.content.word; count = w.content.count; ends = set w.content.ends to e }) next → IsWrittenTo words at ends (to + 1) next
written_more words at ends to now next e d w inside room is again = record {
  content = record { word = w.content.word; count = w.content.count; ends = set w.content.ends to e };
  rewrites = rewrites_twice words now next at w.content (record { word = w.content.word; count = w.content.count; ends = set w.content.ends to e }) w.rewrites again;
  so_far = one_more_end w.content.ends ends to e d (omega (arith, w.long, room)) inside is w.so_far;
  long = length-set w.content.ends to e ∙ w.long;
}
