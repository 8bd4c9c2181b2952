-- The words of one cell, taken out of a row and put back.
use Rattle.std.proofs.Common.{◌≡◌, ◌≢◌, ℕ, zero, suc, ◌<◌, ◌⊎◌, List, [], length, get_or, replicate, Some, None, refl, sym, ap, ◌∙◌, ⊎_elim, inl, inr, arith, eq-eqb}
use Rattle.std.specs.Prelude.{Option, Bool, true, false, not, ◌||◌, eqb}
use Rattle.std.proofs.lemmas.Bool.{cases_eq, cases_lt, eqb-true, true≢false}
use Rattle.std.proofs.lemmas.List.{length-replicate}
use Rattle.in_memory.specs.Places.{together, either_of}
use Rattle.in_memory.specs.Splitting.{held, those_of, but}
use Rattle.in_memory.proofs.Public.{either_none, get_or-those_of, get_or-together, length-those_of, length-together}
use Rattle.in_arena.specs.Words.{Word, Content, spot, slots, head, cell_of, is_one_below, is_spot, word_at, ends_in, cell_in, IsInOneState, Gone, New, Filled, AreWhole, ChangesCell, words_of}
use Rattle.in_arena.specs.declared.content.CellClass.{CellClass}
use Rattle.in_arena.specs.declared.content.CellCounts.{CellCounts}
use Rattle.in_arena.specs.declared.content.End.{End}
use Rattle.in_arena.proofs.Words.{head_inside, kept_cell, IsKept}

-- ---- which words are the cell's

or_true : (a b : Bool) → (a || b) ≡ true → (a ≡ true) ⊎ (b ≡ true)
or_true true b e = inl refl
or_true false b e = inr e

or_left : (a b : Bool) → a ≡ true → (a || b) ≡ true
or_left true b e = refl
or_left false b e = absurd (true≢false (sym e))

or_right : (a b : Bool) → b ≡ true → (a || b) ≡ true
or_right true b e = refl
or_right false b e = e

pub below_is : (f : ℕ → ℕ) (n x : ℕ) → is_one_below f n x ≡ true → (q : ℕ) × (q < n) × (x ≡ f q)
below_is f zero x e = absurd (true≢false (sym e))
below_is f (suc n) x e =
    ⊎_elim
    (λ here. (n, omega arith, eqb-true x (f n) here))
    (λ rest. let q = below_is f n x rest in let lt = q.1 in (q.0, omega (arith, lt), q.2))
    (or_true (eqb x (f n)) (is_one_below f n x) e)

pub is_below : (f : ℕ → ℕ) (n x q : ℕ) → q < n → x ≡ f q → is_one_below f n x ≡ true
is_below f zero x q lt e = absurd (omega arith)
is_below f (suc n) x q lt e =
    ⊎_elim
    (λ (same : q ≡ n). or_left (eqb x (f n)) (is_one_below f n x) (eq-eqb x (f n) (e ∙ ap f same)))
    (λ (other : q ≢ n). or_right (eqb x (f n)) (is_one_below f n x) (is_below f n x q (lesser q n lt other) e))
    (cases_eq q n)
  where
    lesser : (q n : ℕ) → q < suc n → q ≢ n → q < n
    lesser q n lt other = ⊎_elim (λ a. a) (λ a. absurd (other (omega arith))) (cases_lt q n)

bool_cases : (b : Bool) → (b ≡ true) ⊎ (b ≡ false)
bool_cases true = inl refl
bool_cases false = inr refl

module _ (cells : CellCounts) (c : CellClass) (i : ℕ) where
  abbrev pub chosen : ℕ → Bool
  chosen = is_spot c cells i

  own : (q : ℕ) → q < slots c → chosen (spot c cells i q) ≡ true
  own q lt = is_below (spot c cells i) (slots c) (spot c cells i q) q lt refl

  no_others : (x : ℕ) → ((q : ℕ) → q < slots c → x ≢ spot c cells i q) → chosen x ≡ false
  no_others x none = ⊎_elim (λ yes. let q = below_is (spot c cells i) (slots c) x yes in absurd (none q.0 q.1 q.2)) (λ no. no) (bool_cases (chosen x))

  -- ---- taken out

  module _ (ws : List Word) where
    abbrev one : List Word
    one = those_of chosen ws

    abbrev rest : List Word
    rest = those_of (but chosen) ws

    pub in_one : (q : ℕ) → q < slots c → word_at cells one c i q ≡ word_at cells ws c i q
    in_one q lt = get_or-those_of chosen ws (spot c cells i q) ∙ ap (λ b. held b (word_at cells ws c i q)) (own q lt)

    pub in_rest : (q : ℕ) → q < slots c → word_at cells rest c i q ≡ None
    in_rest q lt = get_or-those_of (but chosen) ws (spot c cells i q) ∙ ap (λ b. held (not b) (word_at cells ws c i q)) (own q lt)

    none_at : (n x : ℕ) → get_or (replicate n (let w : Word = None in w)) x None ≡ None
    none_at zero x = refl
    none_at (suc n) zero = refl
    none_at (suc n) (suc x) = none_at n x

    pub one_alone : length ws ≡ words_of cells → ChangesCell cells (replicate (words_of cells) None) one c i
    one_alone long = record {
      long = length-those_of chosen ws ∙ long ∙ sym (length-replicate (words_of cells) None);
      others = λ x none. get_or-those_of chosen ws x ∙ ap (λ b. held b (get_or ws x None)) (no_others x none) ∙ sym (none_at (words_of cells) x);
    }

    pub rest_changes : ChangesCell cells ws rest c i
    rest_changes = record {
      long = length-those_of (but chosen) ws;
      others = λ x none. get_or-those_of (but chosen) ws x ∙ ap (λ b. held (not b) (get_or ws x None)) (no_others x none);
    }

    pub one_cell : cell_in cells one c i ≡ cell_in cells ws c i
    one_cell = kept_cell cells ws one c i in_one

    pub rest_gone : IsInOneState cells rest c i
    rest_gone = Gone in_rest

    pub rest_cell : cell_in cells rest c i ≡ None
    rest_cell = ap (λ w. cell_of w (ends_in cells rest c i)) (in_rest head (head_inside c))

  -- a row without a cell
  pub nothing_whole : (d : CellClass) (j : ℕ) → IsInOneState cells (replicate (words_of cells) None) d j
  nothing_whole d j = Gone (λ q lt. none_at [] (words_of cells) (spot d cells j q))

  pub none_whole : AreWhole cells (replicate (words_of cells) None)
  none_whole = record { long = length-replicate (words_of cells) None; each = λ d j lj. nothing_whole d j }

  pub none_cell : (d : CellClass) (j : ℕ) → cell_in cells (replicate (words_of cells) None) d j ≡ None
  none_cell d j = ap (λ w. cell_of w (ends_in cells (replicate (words_of cells) None) d j)) (none_at [] (words_of cells) (spot d cells j head))

  -- ---- put back

  module _ (ws ones : List Word) (long : length ws ≡ length ones) where
    abbrev both : List Word
    both = together ws ones

    pub put_changes : ChangesCell cells (replicate (words_of cells) None) ones c i → ChangesCell cells ws both c i
    put_changes alone = record {
      long = length-together ws ones;
      others = λ x none. get_or-together ws ones x long ∙ ap (either_of (get_or ws x None)) (alone.others x none ∙ none_at [] (words_of cells) x) ∙ either_none (get_or ws x None);
    }

    -- if the row has none of its words
    pub put_kept : ((q : ℕ) → q < slots c → word_at cells ws c i q ≡ None) → IsKept cells ones both c i
    put_kept gone q lt = get_or-together ws ones (spot c cells i q) long ∙ ap (λ w. either_of w (word_at cells ones c i q)) (gone q lt)

-- a cell that is another owner's
pub gone_of : (cells : CellCounts) (ws : List Word) (c : CellClass) (i : ℕ) → IsInOneState cells ws c i → cell_in cells ws c i ≡ None → (q : ℕ) → q < slots c → word_at cells ws c i q ≡ None
gone_of cells ws c i (Gone none) at = none
gone_of cells ws c i (New fresh) at = absurd (some_new (word_at cells ws c i head) (ends_in cells ws c i) (fresh head (head_inside c)) at)
  where
    some_new : (w : Word) (es : List End) → w ≡ Some None → cell_of w es ≡ None → ⊥
    some_new w es is at = let f : Some (let x : Option Content = None in x) ≡ None = sym (ap (λ v. cell_of v es) is) ∙ at in cc
gone_of cells ws c i (Filled all first) at = let h = all head (head_inside c) in absurd (some_head (word_at cells ws c i head) (ends_in cells ws c i) h.0 h.1 at)
  where
    some_head : (w : Word) (es : List End) (h : End) → w ≡ Some (Some h) → cell_of w es ≡ None → ⊥
    some_head w es h is at = let f = sym (ap (λ v. cell_of v es) is) ∙ at in cc
