-- The start of a machine, and the reason if none starts. This project's own choice.
use Rattle.std.specs.Prelude.{◌≡◌, ℕ, Result, Ok, Err}
use Rattle.in_arena.specs.Classes.{amount}
use Rattle.in_arena.specs.declared.content.CellClass.{CellClass}
use Rattle.in_arena.specs.declared.content.CellCounts.{CellCounts}
use Rattle.in_check.specs.Programs.{Program}
use Rattle.in_compile.specs.Cells.{agents_of, IsFirstShort}
use Rattle.in_reducer.specs.Machines.{MachineParts}
use Rattle.in_reducer.specs.Starts.{IsStart}
use Rattle.in_machine.specs.declared.starting.StartFault.{StartFault}
use Rattle.in_machine.specs.declared.starting.StartFault.TheVariants as start

-- this is the first class with fewer cells than the program's net has agents of it, and these are the two numbers
abbrev pub DoesNotFit : Program → CellCounts → CellClass → ℕ → ℕ → Type 0
DoesNotFit p cells c need free = IsFirstShort (λ d. agents_of p.tables d p.net.cells) (amount cells) c × (need ≡ agents_of p.tables c p.net.cells) × (free ≡ amount cells c)

abbrev pub IsNoStart : Program → CellCounts → StartFault → Type 0
IsNoStart p cells (start.Full c need free) = DoesNotFit p cells c need free
IsNoStart p cells (start.Memory e) = Unit {0}

abbrev pub Starts : Program → CellCounts → Result MachineParts StartFault → Type 0
Starts p cells (Ok m) = IsStart p cells m
Starts p cells (Err f) = IsNoStart p cells f
