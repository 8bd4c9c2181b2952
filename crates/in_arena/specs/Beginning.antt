-- Cells that are begun one after another.
use Rattle.std.specs.Prelude.{◌≡◌, ◌≢◌, ◌≤◌, ◌<◌, ◌+◌, ◌++◌, ℕ, zero, suc, List, [], ◌∷◌, length, Some, slice_get}
use Rattle.in_arena.specs.Arenas.{ArenaView, BeginsCell, free_of, state_at}
use Rattle.in_arena.specs.Changes.{HasAllCells}
use Rattle.in_arena.specs.Classes.{IsNumberOf}
use Rattle.in_arena.specs.States.{State, Vacant, is_vacant, places, word_of}
use Rattle.in_arena.specs.declared.content.CellClass.{CellClass}
use Rattle.in_arena.specs.declared.content.CellClass.TheVariants.{Small}
use Rattle.in_arena.specs.declared.content.CellNo.{CellNo}
use Rattle.in_arena.specs.declared.content.End.{End}
use Rattle.in_arena.specs.declared.content.End.TheVariants.{Cell}
use Rattle.in_arena.specs.declared.head.NewCell.{NewCell}

module _ (cells : List NewCell) (from first : ℕ) (points : List End) (old : ArenaView) where
  -- that many of the cells, from number `from` on, are begun in turn in these cells of the arena, and their principal ports are at their points
  abbrev pub AreBegunInTurn : ℕ → List CellNo → ArenaView → Type 0
  AreBegunInTurn zero ns new = (ns ≡ []) × (new ≡ old)
  AreBegunInTurn (suc k) ns new =
      (c : NewCell) × (ms : List CellNo) × (n : CellNo) × (middle : ArenaView) × (slice_get cells (from + k) ≡ Some c) × (ns ≡ ms ++ n ∷ []) × (slice_get points (first + (from + k)) ≡ Some (Cell n 0))
      × BeginsCell c.class c.head.word c.head.count middle n.0 new × AreBegunInTurn k ms middle

-- the cells from number `from` to before `to` are begun; all points but theirs are as they were
pub record BeginsFrom (cells : List NewCell) (from first : ℕ) (old : ArenaView) (old_points : List End) (to : ℕ) (new : ArenaView) (points : List End) : Type 0 where
  pub many : ℕ
  pub end : to ≡ from + many
  pub within : to ≤ length cells
  pub numbers : List CellNo
  pub begun : AreBegunInTurn cells from first points old many numbers new
  pub before : (j : ℕ) → j < first + from → slice_get points j ≡ slice_get old_points j
  pub after : (j : ℕ) → first + to ≤ j → slice_get points j ≡ slice_get old_points j
  pub long : length points ≡ length old_points

-- the cells from number `from` to before `to` are small
abbrev pub AreSmall : List NewCell → ℕ → ℕ → Type 0
AreSmall cells from to = (k : ℕ) (c : NewCell) → from ≤ k → k < to → slice_get cells k ≡ Some c → c.class ≡ Small

-- .. as many small ones are begun, one after another, as come before one of another class, or as are free
pub record BeginsSmall (cells : List NewCell) (from first : ℕ) (old : ArenaView) (old_points : List End) (to : ℕ) (new : ArenaView) (points : List End) : Type 0 where
  pub begun : BeginsFrom cells from first old old_points to new points
  pub small : AreSmall cells from to
  pub last : (c : NewCell) → slice_get cells to ≡ Some c → c.class ≡ Small → free_of new Small ≡ 0

-- ---- one answer, up to the numbers of the cells

-- the same state but for the ends, which are open where a cell is begun
abbrev pub IsLike : State → State → Type 0
IsLike x y = (word_of x ≡ word_of y) × (places x ≡ places y) × (is_vacant x ≡ is_vacant y)

-- the other arena has like states at other numbers of the same classes; each cell that wasn't free keeps its number and its state
pub record AreOneUpToNumbers (old one other : ArenaView) (to : ℕ → ℕ) : Type 0 where
  pub back : ℕ → ℕ
  pub there : (n : ℕ) → back (to n) ≡ n
  pub here : (n : ℕ) → to (back n) ≡ n
  pub kept : (n : ℕ) → state_at old n ≢ Vacant → (to n ≡ n) × (state_at one n ≡ state_at old n) × (state_at other n ≡ state_at old n)
  pub class : (c : CellClass) (n : ℕ) → IsNumberOf old.cells c n → IsNumberOf old.cells c (to n)
  pub like : (n : ℕ) → IsLike (state_at one n) (state_at other (to n))
  pub memory : (one.memory ≡ old.memory) × (other.memory ≡ old.memory)
  pub cells : (one.cells ≡ old.cells) × (other.cells ≡ old.cells)
  pub free : (c : CellClass) → free_of other c ≡ free_of one c

-- a cell that is begun is one up to its number
abbrev pub BegunCellsAreOne : Type 0
BegunCellsAreOne = (old one other : ArenaView) (c : CellClass) (word count n m : ℕ) → HasAllCells old → BeginsCell c word count old n one → BeginsCell c word count old m other → (f : ℕ → ℕ) × AreOneUpToNumbers old one other f × (f n ≡ m)

-- each cell from number `from` to before `to` has the principal port of a cell of the arena at its point, and in the other list that of the one to
-- whose number f leads
abbrev pub ArePointsRenumbered : ℕ → ℕ → ℕ → (ℕ → ℕ) → List End → List End → Type 0
ArePointsRenumbered first from to f points others =
    (j : ℕ) → from ≤ j → j < to → (n : CellNo) × (m : CellNo) × (slice_get points (first + j) ≡ Some (Cell n 0)) × (slice_get others (first + j) ≡ Some (Cell m 0)) × (f n.0 ≡ m.0)

-- small cells that are begun are as many in each answer, and one up to their numbers
abbrev pub SmallCellsBegunAreOne : Type 0
SmallCellsBegunAreOne = (cells : List NewCell) (from first : ℕ) (old one other : ArenaView) (before points others : List End) (to to' : ℕ) → HasAllCells old → (b : BeginsSmall cells from first old before to one points) → (d : BeginsSmall cells from first old before to' other others)
    → (to' ≡ to) × ((f : ℕ → ℕ) × AreOneUpToNumbers old one other f × ((k : ℕ) (n m : CellNo) → slice_get b.begun.numbers k ≡ Some n → slice_get d.begun.numbers k ≡ Some m → f n.0 ≡ m.0) × ArePointsRenumbered first from to f points others)
