use Rattle.std.proofs.Common.{◌≡◌, ◌<◌, ℕ, length}
use Rattle.in_interaction.specs.After.{IsCellAfter, cell_at}
use Rattle.in_interaction.proofs.following.Site.cells.Given as goal

abbrev pub invariant-loop-number : goal.invariant-loop-number
invariant-loop-number l = record { many : length l.cells ≡ l.number; each : (y : ℕ) → y < length l.cells → IsCellAfter l.self y (cell_at l.cells y) }
