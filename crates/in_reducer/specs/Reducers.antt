-- The invariant of a reducer: its net is sound. It need not be one that the program reaches, so a part of a net can be reduced by itself. A step
-- needs no more than soundness: each active pair has one rule, and each interaction ends.
use Rattle.std.specs.Prelude.{ℕ, List}
use Rattle.in_arena.specs.declared.content.CellCounts.{CellCounts}
use Rattle.in_check.specs.Checking.{IsAccepted}
use Rattle.in_order.specs.Reducible.{IsReducible}
use Rattle.in_reducer.specs.Limiting.{AreAllowed}
use Rattle.in_reducer.specs.Machines.{MachineParts, HasCells, HasItsPairs, plain_of}
use Rattle.in_syntax.specs.declared.text_limits.TextLimits.{TextLimits}

-- its program is accepted, its net is sound, its queue has each active pair once, and each class has its number of cells
pub record IsReducer (m : MachineParts) : Type 0 where
  pub accepted : (limits : TextLimits) × (text : List ℕ) × IsAccepted limits text m.program
  pub net : IsReducible (plain_of m)
  pub queue : HasItsPairs m
  pub cells : (cells : CellCounts) × AreAllowed cells × HasCells cells m
