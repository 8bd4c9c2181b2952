-- Marks at the numbers of agents. This project's own choice.
use Rattle.std.specs.Prelude.{◌≡◌, ℕ, Bool, true, List, Some, slice_get}
use Rattle.in_arena.specs.declared.content.CellNo.{CellNo}

-- only the numbers of these agents are marked
abbrev pub NoOtherIsMarked : List CellNo → List Bool → Type 0
NoOtherIsMarked agents marks = (y : ℕ) → ((k : ℕ) → slice_get agents k ≡ Some (record { 0 = y }) → ⊥) → slice_get marks y ≡ Some true → ⊥
