-- Cells by their classes: the class for an agent, how many of each an interaction needs, and whether they are free. That an agent takes a cell, of
-- the class that holds its ports, is this project's own choice.
use Rattle.std.specs.Prelude.{◌≡◌, ◌≤◌, ◌<◌, ◌+◌, ℕ, Bool, false, cond, List, Option, Some, None, count_by}
use Rattle.in_arena.specs.declared.content.CellClass.{CellClass}
use Rattle.in_arena.specs.declared.content.CellClass.TheVariants.{Small, Large, Wide}
use Rattle.in_arena.specs.Classes.{class_no, holds}
use Rattle.in_symbols.specs.Tables.{Tables, arity_of}
use Rattle.in_net.specs.declared.nets.Cell.{Cell}
use Rattle.in_net.specs.Rules.{RuleParts}
use Rattle.in_compile.specs.declared.cells.Need.{Need}

-- an agent of this symbol takes a cell of this class, which holds its auxiliary ports and its principal one
abbrev pub is_of : Tables → CellClass → ℕ → Bool
is_of t c s = holds c (arity_of t s + 1)

abbrev pub takes : Tables → CellClass → Option Cell → Bool
takes t c None = false
takes t c (Some a) = is_of t c a.symbol.0

-- the number of these agents that take a cell of this class
abbrev pub agents_of : Tables → CellClass → List (Option Cell) → ℕ
agents_of t c agents = count_by (takes t c) agents

-- .. and the number of a rule's two symbols that do
abbrev pub heads_taking : Tables → CellClass → RuleParts → ℕ
heads_taking t c r = cond (is_of t c r.heads.0.0) 1 0 + cond (is_of t c r.heads.1.0) 1 0

-- the number for one class
abbrev pub count_of : Need → CellClass → ℕ
count_of need Small = need.small
count_of need Large = need.large
count_of need Wide = need.wide

-- these numbers for the classes
abbrev pub need_by : (CellClass → ℕ) → Need
need_by f = record { small = f Small; large = f Large; wide = f Wide }

-- `need` has, for each class, the number of these agents that take a cell of it
abbrev pub IsNeedOf : Tables → List (Option Cell) → Need → Type 0
IsNeedOf t agents need = (c : CellClass) → count_of need c ≡ agents_of t c agents

-- each class has as many free cells as needed
abbrev pub IsEnough : (CellClass → ℕ) → (CellClass → ℕ) → Type 0
IsEnough need free = (c : CellClass) → need c ≤ free c

-- this class has fewer free cells than needed, and no class before it does
abbrev pub IsFirstShort : (CellClass → ℕ) → (CellClass → ℕ) → CellClass → Type 0
IsFirstShort need free c = (free c < need c) × ((d : CellClass) → class_no d < class_no c → need d ≤ free d)
