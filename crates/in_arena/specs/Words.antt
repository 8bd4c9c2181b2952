-- The row of words of an arena: the words of each cell in it, and their meaning.
use Rattle.std.specs.Prelude.{◌≡◌, ◌≢◌, ◌<◌, ◌+◌, ◌-◌, ◌*◌, ℕ, zero, suc, Bool, false, cond, nat_lt, ◌||◌, eqb, List, length, map, get_or, Option, Some, None}
use Rattle.std.specs.List.{range_with_len}
use Rattle.in_arena.specs.Classes.{all_of, amount, first_of, width}
use Rattle.in_arena.specs.declared.content.CellClass.{CellClass}
use Rattle.in_arena.specs.declared.content.CellClass.TheVariants.{Small, Large, Wide}
use Rattle.in_arena.specs.declared.content.CellCounts.{CellCounts}
use Rattle.in_arena.specs.declared.content.End.{End}
use Rattle.in_arena.specs.declared.content.End.TheVariants.{Cell, Free}

-- a word of the row, as one of its owners has it: another owner's, its own and never written, or its own with an end
abbrev pub Word : Type 0
Word = Option (Option End)

-- the content of a cell: its symbol word, its number of ends, and the end at each of its places
pub record Content : Type 0 where
  pub word : ℕ
  pub count : ℕ
  pub ends : List End

-- a cell, as an owner of words has it
abbrev pub CellWords : Type 0
CellWords = Option (Option Content)

-- ---- the places of the words

-- the words of a cell lie in three parts of the row: the first four of all cells, then six of each large and each wide cell, then eight of each wide
-- cell
abbrev pub middle_start : CellCounts → ℕ
middle_start cells = 4 * all_of cells

abbrev pub far_start : CellCounts → ℕ
far_start cells = middle_start cells + 6 * (cells.large_cells + cells.wide_cells)

-- the number of words of the row
abbrev pub words_of : CellCounts → ℕ
words_of cells = far_start cells + 8 * cells.wide_cells

-- where the words of a cell begin in each part
abbrev pub near_of : CellClass → CellCounts → ℕ → ℕ
near_of c cells i = 4 * (first_of cells c + i)

abbrev pub middle_of : CellClass → CellCounts → ℕ → ℕ
middle_of Small cells i = 0
middle_of Large cells i = middle_start cells + 6 * i
middle_of Wide cells i = middle_start cells + 6 * (cells.large_cells + i)

abbrev pub far_of : CellCounts → ℕ → ℕ
far_of cells i = far_start cells + 8 * i

-- the words of a cell in their order: places 0 to 2, the head, places 3 to 8, places 9 to 16
abbrev pub spot : CellClass → CellCounts → ℕ → ℕ → ℕ
spot c cells i zero = near_of c cells i
spot c cells i (suc zero) = near_of c cells i + 1
spot c cells i (suc (suc zero)) = near_of c cells i + 2
spot c cells i (suc (suc (suc zero))) = near_of c cells i + 3
spot c cells i (suc (suc (suc (suc q)))) = cond (nat_lt q 6) (middle_of c cells i + q) (far_of cells i + (q - 6))

-- the number of its words
abbrev pub slots : CellClass → ℕ
slots c = width c + 1

-- the word that is the head
abbrev pub head : ℕ
head = 3

abbrev pub slot_of : ℕ → ℕ
slot_of zero = 0
slot_of (suc zero) = 1
slot_of (suc (suc zero)) = 2
slot_of (suc (suc (suc p))) = suc (suc (suc (suc p)))

-- the function maps some number below n to this number
abbrev pub is_one_below : (ℕ → ℕ) → ℕ → ℕ → Bool
is_one_below f zero x = false
is_one_below f (suc n) x = eqb x (f n) || is_one_below f n x

-- the word of that number is one of this cell's
abbrev pub is_spot : CellClass → CellCounts → ℕ → ℕ → Bool
is_spot c cells i = is_one_below (spot c cells i) (slots c)

-- ---- the meaning of the words

-- a head names the symbol word and the number of ends, as an end names a cell and a place; the head of a free cell names the next free one
abbrev pub word_in : End → ℕ
word_in (Cell s n) = s.0
word_in (Free k) = 0

abbrev pub count_in : End → ℕ
count_in (Cell s n) = n
count_in (Free k) = 0

abbrev pub IsHead : End → Type 0
IsHead (Cell s n) = Unit {0}
IsHead (Free k) = ⊥

-- both
pub record Head : Type 0 where
  pub word : ℕ
  pub count : ℕ

abbrev pub head_in : End → Head
head_in e = record { word = word_in e; count = count_in e }

-- the end in a word that is written
abbrev pub end_of : Word → End
end_of None = Free 0
end_of (Some None) = Free 0
end_of (Some (Some e)) = e

abbrev pub cell_of : Word → List End → CellWords
cell_of None es = None
cell_of (Some None) es = Some None
cell_of (Some (Some h)) es = Some (Some (record { word = word_in h; count = count_in h; ends = es }))

module _ (cells : CellCounts) (ws : List Word) (c : CellClass) where
  abbrev pub word_at : ℕ → ℕ → Word
  word_at i q = get_or ws (spot c cells i q) None

  abbrev pub ends_in : ℕ → List End
  ends_in i = map (λ p. end_of (word_at i (slot_of p))) (range_with_len 0 (width c))

  abbrev pub cell_in : ℕ → CellWords
  cell_in i = cell_of (word_at i head) (ends_in i)

  -- the cells of the class
  abbrev pub row_in : List CellWords
  row_in = map cell_in (range_with_len 0 (amount cells c))

  -- all words of the cell are another owner's, or all are this owner's and never written, or all are written, with a head at the head's word
  pub data IsInOneState (i : ℕ) : Type 0 where
    Gone : ((q : ℕ) → q < slots c → word_at i q ≡ None) → IsInOneState i
    New : ((q : ℕ) → q < slots c → word_at i q ≡ Some None) → IsInOneState i
    Filled : ((q : ℕ) → q < slots c → (e : End) × (word_at i q ≡ Some (Some e))) → IsHead (end_of (word_at i head)) → IsInOneState i

-- the row has all its words, and the words of each cell are in one state
pub record AreWhole (cells : CellCounts) (ws : List Word) : Type 0 where
  pub long : length ws ≡ words_of cells
  pub each : (c : CellClass) (i : ℕ) → i < amount cells c → IsInOneState cells ws c i

-- the rows have one length and differ in words of this cell at most
pub record ChangesCell (cells : CellCounts) (old new : List Word) (c : CellClass) (i : ℕ) : Type 0 where
  pub long : length new ≡ length old
  pub others : (x : ℕ) → ((q : ℕ) → q < slots c → x ≢ spot c cells i q) → get_or new x None ≡ get_or old x None
