-- The invariant of a machine. Lafont 1990 reduces a net by interactions of its active pairs, in any order.
use Rattle.std.specs.Prelude.{◌≤◌, ℕ, List}
use Rattle.in_arena.specs.declared.content.CellCounts.{CellCounts}
use Rattle.in_check.specs.Checking.{IsAccepted}
use Rattle.in_check.specs.Plain.{IsPlain}
use Rattle.in_reducer.specs.Limiting.{AreAllowed}
use Rattle.in_reducer.specs.Machines.{MachineParts, HasCells, HasItsPairs, plain_of}
use Rattle.in_syntax.specs.declared.text_limits.TextLimits.{TextLimits}

-- its program is accepted and reaches its net, its queue has each active pair once, and each class has its number of cells
pub record IsMachine (m : MachineParts) : Type 0 where
  pub accepted : (limits : TextLimits) × (text : List ℕ) × IsAccepted limits text m.program
  pub plain : IsPlain (plain_of m)
  pub queue : HasItsPairs m
  pub cells : (cells : CellCounts) × AreAllowed cells × HasCells cells m
