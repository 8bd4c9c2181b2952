-- The start: a program's net in cells.
use Rattle.std.specs.Prelude.{◌≡◌, ℕ, List, map}
use Rattle.in_arena.specs.declared.content.CellCounts.{CellCounts}
use Rattle.in_net.specs.Built.{IsOver}
use Rattle.in_net.specs.Nets.{net_of}
use Rattle.in_check.specs.Programs.{Program}
use Rattle.in_check.specs.Runs.{IsRenamed}
use Rattle.in_interaction.specs.Queues.{both, IsFirstQueue}
use Rattle.in_reducer.specs.Machines.{MachineParts, HasCells, parts_of}

-- a machine with that many cells of each class that shows the program's net, with any numbers of its agents, and with its active pairs in the order of
-- their wires
pub record IsStart (p : Program) (cells : CellCounts) (m : MachineParts) : Type 0 where
  pub program : m.program ≡ p
  pub over : IsOver p.tables (parts_of m)
  pub name : ℕ → ℕ
  pub net : IsRenamed name (net_of p.net) (net_of (parts_of m))
  pub names : map (λ f. f.name) m.free ≡ map (λ f. f.name) p.net.free
  pub first : List (ℕ × ℕ)
  pub pairs : IsFirstQueue p.tables p.net first
  pub queue : m.queue ≡ map (both name) first
  pub counted : HasCells cells m
