-- The facts that stay when a net is reduced in parts. This project's own choice.
use Rattle.std.specs.Prelude.{◌≡◌, ◌+◌, ℕ}
use Rattle.in_check.specs.Plain.{IsReachedBy}
use Rattle.in_reducer.specs.Machines.{MachineParts, KeepsCellCounts, plain_of}
use Rattle.in_machine.specs.Machines.{IsMachine}

-- k interactions of any pairs, one after another: a machine of the same program, with as many cells of each class, and a net that is reached by k
-- interactions more
pub record IsPhase (m : MachineParts) (k : ℕ) (after : MachineParts) : Type 0 where
  pub machine : IsMachine after
  pub program : after.program ≡ m.program
  pub cells : KeepsCellCounts m after
  pub reached : (j : ℕ) → IsReachedBy (plain_of m) j → IsReachedBy (plain_of after) (k + j)
