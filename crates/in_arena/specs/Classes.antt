-- The classes of cells. A class is a number and a width; all definitions on classes use these two alone. This project's own choice.
use Rattle.std.specs.Prelude.{◌≡◌, ◌≤◌, ◌<◌, ◌+◌, ℕ, Bool, ◌&&◌, nat_le, List, [], ◌∷◌}
use Rattle.in_arena.specs.declared.content.CellClass.{CellClass}
use Rattle.in_arena.specs.declared.content.CellClass.TheVariants.{Small, Large, Wide}
use Rattle.in_arena.specs.declared.content.CellCounts.{CellCounts}

-- all classes in the order of their numbers, in which they are tested
abbrev pub classes : List CellClass
classes = Small ∷ Large ∷ Wide ∷ []

abbrev pub class_no : CellClass → ℕ
class_no Small = 0
class_no Large = 1
class_no Wide = 2

-- the number of ends for which a cell has room, the principal port's among them
abbrev pub width : CellClass → ℕ
width Small = 3
width Large = 9
width Wide = 17

-- the least number of ends for a cell: one, or one more than a cell of the class before has room for
abbrev pub least : CellClass → ℕ
least Small = 1
least Large = width Small + 1
least Wide = width Large + 1

-- a cell of this class is for n ends
abbrev pub Holds : CellClass → ℕ → Type 0
Holds c n = (least c ≤ n) × (n ≤ width c)

abbrev pub holds : CellClass → ℕ → Bool
holds c n = nat_le (least c) n && nat_le n (width c)

-- the number of cells of a class
abbrev pub amount : CellCounts → CellClass → ℕ
amount cells Small = cells.small_cells
amount cells Large = cells.large_cells
amount cells Wide = cells.wide_cells

-- this number of cells of each class
abbrev pub each : ℕ → CellCounts
each n = record { small_cells = n; large_cells = n; wide_cells = n }

-- the number of cells of all classes
abbrev pub all_of : CellCounts → ℕ
all_of cells = cells.small_cells + cells.large_cells + cells.wide_cells

-- the number of the first cell of a class: the cells of a class come after those of the class before
abbrev pub first_of : CellCounts → CellClass → ℕ
first_of cells Small = 0
first_of cells Large = cells.small_cells
first_of cells Wide = cells.small_cells + cells.large_cells

-- in an arena with that many cells of each class, n is the number of one of class c
abbrev pub IsNumberOf : CellCounts → CellClass → ℕ → Type 0
IsNumberOf cells c n = (first_of cells c ≤ n) × (n < first_of cells c + amount cells c)

-- a number of ends that some class holds is held by only one class
abbrev pub ClassesAreApart : Type 0
ClassesAreApart = (n : ℕ) (c d : CellClass) → Holds c n → Holds d n → c ≡ d

-- .. and each number up to the greatest width has one
abbrev pub ClassesAreAll : Type 0
ClassesAreAll = (n : ℕ) → 1 ≤ n → n ≤ width Wide → (c : CellClass) × Holds c n

-- no number is that of cells of two classes
abbrev pub NumbersAreApart : Type 0
NumbersAreApart = (cells : CellCounts) (n : ℕ) (c d : CellClass) → IsNumberOf cells c n → IsNumberOf cells d n → c ≡ d

-- .. and each number below that of all cells is
abbrev pub NumbersAreAll : Type 0
NumbersAreAll = (cells : CellCounts) (n : ℕ) → n < all_of cells → (c : CellClass) × IsNumberOf cells c n
