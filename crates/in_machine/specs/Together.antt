-- The cells that the first pairs of a queue need together: if they are free for all, they are free for each in its turn. This project's own choice.
use Rattle.std.specs.Prelude.{◌+◌, ℕ, zero, suc}
use Rattle.in_arena.specs.declared.content.CellClass.{CellClass}
use Rattle.in_compile.specs.declared.cells.Need.{Need}
use Rattle.in_compile.specs.Cells.{count_of, IsEnough}
use Rattle.in_reducer.specs.Machines.{MachineParts}
use Rattle.in_reducer.specs.Steps.{NeedsAt}

-- the first pairs, a given number of them, need a given number of cells of each class together
pub data NeedTogether (m : MachineParts) : ℕ → (CellClass → ℕ) → Type 0 where
  none : NeedTogether m zero (λ c. zero)
  then_next : (k : ℕ) (sum : CellClass → ℕ) (need : Need) → NeedTogether m k sum → NeedsAt m k need → NeedTogether m (suc k) (λ c. sum c + count_of need c)

-- these cells are free
abbrev pub HasRoomFor : MachineParts → ℕ → Type 0
HasRoomFor m k = (sum : CellClass → ℕ) × NeedTogether m k sum × IsEnough sum (count_of m.vacant)
