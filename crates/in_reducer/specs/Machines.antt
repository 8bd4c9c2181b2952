-- The view of a reducer, and of the machine around it. Lafont 1990 reduces a net by interactions of its active pairs, in any
-- order; the queue of pairs and the cells are this project's own choice.
use Rattle.std.specs.Prelude.{◌≡◌, ◌<◌, ◌+◌, ℕ, List, Option, IsSome}
use Rattle.in_arena.specs.Classes.{amount}
use Rattle.in_arena.specs.declared.content.CellClass.{CellClass}
use Rattle.in_arena.specs.declared.content.CellCounts.{CellCounts}
use Rattle.in_arena.specs.declared.content.End.{End}
use Rattle.in_arena.specs.declared.content.End.TheVariants as end
use Rattle.in_net.specs.declared.nets.Cell.{Cell}
use Rattle.in_net.specs.declared.nets.FreeEnd.{FreeEnd}
use Rattle.in_net.specs.declared.nets.Point as points
use Rattle.in_net.specs.declared.nets.Point.TheVariants as point
use Rattle.in_interaction.specs.Listing.{unlisted}
use Rattle.in_interaction.specs.Queues.{IsQueueOf}
use Rattle.in_net.specs.Parts.{Parts, symbol_in}
use Rattle.in_check.specs.Plain.{PlainParts}
use Rattle.in_check.specs.Programs.{Program}
use Rattle.in_compile.specs.declared.cells.Need.{Need}
use Rattle.in_compile.specs.Cells.{agents_of, count_of}

-- its program, the agent of each cell by number, the free ends, the active pairs in their order, and the number of free cells of each class
pub record MachineParts : Type 0 where
  pub program : Program
  pub agents : List (Option Cell)
  pub free : List FreeEnd
  pub queue : List (ℕ × ℕ)
  pub vacant : Need

-- the net that it shows; the partners of agents' ports and of free ends are its wires
abbrev pub parts_of : MachineParts → Parts
parts_of m = unlisted m.agents m.free

-- .. with its program
abbrev pub plain_of : MachineParts → PlainParts
plain_of m = record { program = m.program; net = parts_of m }

-- the point of an end: a cell has the number of its agent
abbrev pub point_at : End → points.Point
point_at (end.Cell c i) = point.Port (record { 0 = c.0 }) i
point_at (end.Free k) = point.Free k

-- its queue has each active pair of its net, once, and nothing else
abbrev pub HasItsPairs : MachineParts → Type 0
HasItsPairs m = IsQueueOf m.program.tables (parts_of m) m.queue

-- each class has that many cells, free ones and those of its agents
abbrev pub HasCells : CellCounts → MachineParts → Type 0
HasCells cells m = (c : CellClass) → count_of m.vacant c + agents_of m.program.tables c m.agents ≡ amount cells c

-- .. and the other one has as many of each class
abbrev pub KeepsCellCounts : MachineParts → MachineParts → Type 0
KeepsCellCounts m after = (c : CellClass) → count_of after.vacant c + agents_of m.program.tables c after.agents ≡ count_of m.vacant c + agents_of m.program.tables c m.agents

-- the number of each agent is below this one
abbrev pub AreNumbersBelow : MachineParts → ℕ → Type 0
AreNumbersBelow m many = (y : ℕ) → IsSome (symbol_in (parts_of m) y) → y < many
