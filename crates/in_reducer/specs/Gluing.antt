-- The condition for gluing a part on, and the order of the free ends of both. That nets are reduced in parts is this project's own choice.
use Rattle.std.specs.Prelude.{◌≡◌, ◌<◌, ◌≤◌, ℕ, List, [], ◌∷◌, ◌++◌, take, drop}
use Rattle.in_arena.specs.declared.content.CellClass.{CellClass}
use Rattle.in_arena.specs.declared.content.CellNo.{CellNo}
use Rattle.in_arena.specs.declared.content.End.{End}
use Rattle.in_arena.specs.declared.content.End.TheVariants.{Cell, Free}
use Rattle.in_compile.specs.Cells.{agents_of, count_of}
use Rattle.in_reducer.specs.Machines.{MachineParts}

-- the part is of the same program, and each class has as many free cells as the part has agents
pub record CanAppend (m other : MachineParts) : Type 0 where
  pub program : other.program ≡ m.program
  pub room : (c : CellClass) → agents_of m.program.tables c other.agents ≤ count_of m.vacant c

-- an element of the one list and one of the other, by turns
abbrev pub in_turn : {X : Type 0} → List X → List X → List X
in_turn [] xs = []
in_turn (y ∷ ys) [] = []
in_turn (y ∷ ys) (x ∷ xs) = y ∷ x ∷ in_turn ys xs

-- the rest's elements from before the cuts, and then, for each cut, the part's element and the rest's
abbrev pub glued : {X : Type 0} → ℕ → List X → List X → List X
glued own rest part = take own rest ++ in_turn part (drop own rest)

-- if the end leads to a free end, that is one of the first `many`
abbrev pub IsFreeWithin : ℕ → End → Type 0
IsFreeWithin many e = (k : ℕ) → e ≡ Free k → k < many

-- .. and if it leads to a cell, that is one of them
abbrev pub IsCellWithin : ℕ → End → Type 0
IsCellWithin many e = (c : CellNo) (i : ℕ) → e ≡ Cell c i → c.0 < many
