-- Changes of the words of one cell, and of the lists of free cells with them.
use Rattle.std.specs.Prelude.{◌≡◌, ◌≢◌, ◌≤◌, ◌<◌, ℕ, Bool, true, false, List, length, take, count_by, replicate, slice_set, Option, Some, None}
use Rattle.in_memory.specs.declared.cells.Cells.{Cells}
use Rattle.in_arena.specs.ByClass.{IsPlace}
use Rattle.in_arena.specs.Classes.{amount, width}
use Rattle.in_arena.specs.FreeLists.{ListsFree, list_in, state_in, state_of, states}
use Rattle.in_arena.specs.States.{State, Vacant, is_vacant}
use Rattle.in_arena.specs.Words.{AreWhole, ChangesCell, Content, IsInOneState, Word, cell_in, count_in, row_in, slots, word_at, word_in, words_of}
use Rattle.in_arena.specs.declared.content.CellClass.{CellClass}
use Rattle.in_arena.specs.declared.content.CellCounts.{CellCounts}
use Rattle.in_arena.specs.declared.content.CellNo.{CellNo}
use Rattle.in_arena.specs.declared.content.End.{End}
use Rattle.in_arena.specs.declared.free_list.FreeLists.{FreeLists}
use Rattle.in_arena.specs.declared.spot.Spot.{Spot}

-- the lists have the free cells of each class
abbrev pub EachListsFree : CellCounts → List Word → FreeLists → Type 0
EachListsFree cells ws lists = (c : CellClass) → ListsFree (width c) (row_in cells ws c) (list_in lists c)

-- this cell has this state, and all others are as they were
pub record RowsBecome (cells : CellCounts) (old new : List Word) (c : CellClass) (i : ℕ) (x : State) : Type 0 where
  pub row : states (row_in cells new c) ≡ slice_set (states (row_in cells old c)) i x
  pub others : (d : CellClass) → d ≢ c → states (row_in cells new d) ≡ states (row_in cells old d)

-- each cell is as it was
abbrev pub RowsStay : CellCounts → List Word → List Word → Type 0
RowsStay cells old new = (c : CellClass) → states (row_in cells new c) ≡ states (row_in cells old c)

-- the list of the class has a cell, or no cell of the class is free
abbrev pub MakesReady : CellCounts → CellClass → Cells End → FreeLists → Bool → Cells End → FreeLists → Type 0
MakesReady cells c words lists true words' lists' = (words'.at ≡ words.at) × AreWhole cells words'.slots × EachListsFree cells words'.slots lists' × RowsStay cells words.slots words'.slots × ((list_in lists' c).next ≢ amount cells c)
MakesReady cells c words lists false words' lists' = (words' ≡ words) × (lists' ≡ lists) × (count_by is_vacant (states (row_in cells words.slots c)) ≡ 0)

-- the cell is written with this content
pub record Rewrites (words : Cells End) (at : Spot) (x : Content) (words' : Cells End) : Type 0 where
  pub same : words'.at ≡ words.at
  pub whole : AreWhole at.cells words'.slots
  pub changes : ChangesCell at.cells words.slots words'.slots at.class at.index
  pub cell : cell_in at.cells words'.slots at.class at.index ≡ Some (Some x)

-- `one` has the words of this cell, which is written, and no others; in the row they are another owner's
pub record OwnsOne (words : Cells End) (at : Spot) (one : Cells End) : Type 0 where
  pub same : one.at ≡ words.at
  pub index : at.index < amount at.cells at.class
  pub whole : AreWhole at.cells one.slots
  pub alone : ChangesCell at.cells (replicate (words_of at.cells) None) one.slots at.class at.index
  pub content : Content
  pub cell : cell_in at.cells one.slots at.class at.index ≡ Some (Some content)
  pub room : content.count ≤ width at.class
  pub out : cell_in at.cells words.slots at.class at.index ≡ None

-- the cell is free, the first of its list
pub record IsTakenBack (words : Cells End) (lists : FreeLists) (at : Spot) (words' : Cells End) (lists' : FreeLists) : Type 0 where
  pub same : words'.at ≡ words.at
  pub whole : AreWhole at.cells words'.slots
  pub free : EachListsFree at.cells words'.slots lists'
  pub rows : RowsBecome at.cells words.slots words'.slots at.class at.index Vacant

-- a cell is here and written
abbrev pub IsWrittenAt : List Word → Spot → Type 0
IsWrittenAt ws at = (x : Content) × (cell_in at.cells ws at.class at.index ≡ Some (Some x))

-- it has this symbol word and these ends
pub record HasContent (symbol : ℕ) (es : List End) (x : Content) : Type 0 where
  pub word : x.word ≡ symbol
  pub count : x.count ≡ length es
  pub ends : take (length es) x.ends ≡ es

-- nothing was ever written in the cell
abbrev pub IsUnwritten : List Word → Spot → Type 0
IsUnwritten ws at = (q : ℕ) → q < slots at.class → word_at at.cells ws at.class at.index q ≡ Some None

-- the cell is written, with this head and an end at each place. All other words are as they were
pub record IsFirstWritten (words : Cells End) (at : Spot) (h : End) (words' : Cells End) : Type 0 where
  pub same : words'.at ≡ words.at
  pub state : IsInOneState at.cells words'.slots at.class at.index
  pub changes : ChangesCell at.cells words.slots words'.slots at.class at.index
  pub ends : List End
  pub long : length ends ≡ width at.class
  pub cell : cell_in at.cells words'.slots at.class at.index ≡ Some (Some (record { word = word_in h; count = count_in h; ends = ends }))

-- a cell of the class that was never used has this head from now on, and isn't free any more
pub record BeginsNewCell (cells : CellCounts) (c : CellClass) (h : End) (words : Cells End) (lists : FreeLists) (n : CellNo) (words' : Cells End) (lists' : FreeLists) : Type 0 where
  pub same : words'.at ≡ words.at
  pub whole : AreWhole cells words'.slots
  pub free : EachListsFree cells words'.slots lists'
  pub index : ℕ
  pub place : IsPlace cells n.0 c index
  pub was : state_of (cell_in cells words.slots c index) ≡ Vacant
  pub ends : List End
  pub long : length ends ≡ width c
  pub rows : RowsBecome cells words.slots words'.slots c index (state_in (record { word = word_in h; count = count_in h; ends = ends }))

-- .. or all were used, and no cell of the class is free
abbrev pub BeginsNew : CellCounts → CellClass → End → Cells End → FreeLists → Option CellNo → Cells End → FreeLists → Type 0
BeginsNew cells c h words lists None words' lists' = (words' ≡ words) × (lists' ≡ lists) × (count_by is_vacant (states (row_in cells words.slots c)) ≡ 0)
BeginsNew cells c h words lists (Some n) words' lists' = BeginsNewCell cells c h words lists n words' lists'
