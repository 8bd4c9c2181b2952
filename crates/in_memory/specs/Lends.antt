-- An owner's cells after a `&mut` into one of them has ended.
use Rattle.std.specs.Prelude.{ℕ, List, slice_set, Option, Some}
use Rattle.std.specs.Borrow.{Fml, RattleType, MutBor, Lends}
use Rattle.in_memory.specs.declared.cells.Cells.{Cells}
use Rattle.in_memory.specs.contracts.cells.Cells.{the_row}

abbrev pub with_slots : {X : Type 0} → Cells X → List (Option (Option X)) → Cells X
with_slots c cs = record { mark = c.mark; at = c.at; slots = cs }

abbrev pub lends_cell : (R : RattleType) → MutBor (Cells R.Denot) → ℕ → MutBor R.Denot → Fml
lends_cell R c i r = Lends (the_row R) R c r (λ w. with_slots c.now (slice_set c.now.slots i (Some (Some w))))
