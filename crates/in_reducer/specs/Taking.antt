-- Symbols of pairs that are read ahead, and cells that are left free or are known to be free. Both are this project's own choice.
use Rattle.std.specs.Prelude.{◌≡◌, ◌⊎◌, ◌+◌, ◌-◌, ◌≤◌, ◌<◌, ℕ, List, [], length, Some, slice_get}
use Rattle.in_arena.specs.declared.content.CellClass.{CellClass}
use Rattle.in_syntax.specs.declared.symbol_no.SymbolNo.{SymbolNo}
use Rattle.in_compile.specs.declared.cells.Need.{Need}
use Rattle.in_compile.specs.Cells.{count_of}
use Rattle.in_reducer.specs.Machines.{MachineParts}
use Rattle.in_reducer.specs.Same.{RunsUpToNumbers}
use Rattle.in_reducer.specs.Steps.{HasRoomAt, NeedsAt}
use Rattle.in_reducer.specs.Templates.{HasHeadsAt}

-- the number of pairs that are read together
abbrev pub together : ℕ
together = 8

-- the elements from number `next` on are the symbols of the first pairs, one after another
pub record AreAhead (m : MachineParts) (read : List (SymbolNo × SymbolNo)) (next : ℕ) : Type 0 where
  pub long : length read ≡ together
  pub each : (k : ℕ) (h : SymbolNo × SymbolNo) → slice_get read (next + k) ≡ Some h → HasHeadsAt m k h

-- the cells that the pair needs are free, and `floor` cells of each class besides
abbrev pub HasRoomBesides : MachineParts → ℕ → ℕ → Type 0
HasRoomBesides m i floor = (need : Need) × NeedsAt m i need × ((c : CellClass) → floor + count_of need c ≤ count_of m.vacant c)

-- no pair is left, or the cells for the last one aren't free with `floor` cells of each class besides
abbrev pub TakesNoLast : ℕ → MachineParts → Type 0
TakesNoLast floor m = (m.queue ≡ []) ⊎ (HasRoomBesides m (length m.queue - 1) floor → ⊥)

-- each of the next `many` interactions of the first pair, up to numbers, finds the cells that it needs free
abbrev pub HasRoomOn : ℕ → MachineParts → Type 0
HasRoomOn many m = (k : ℕ) (n : MachineParts) → k < many → RunsUpToNumbers m k n → 0 < length n.queue → HasRoomAt n 0
