use Rattle.std.proofs.Common.{◌≡◌, ◌<◌, ℕ, Some, slice_get}
use Rattle.in_arena.specs.Arenas.{state_at}
use Rattle.in_arena.specs.States.{end_at}
use Rattle.in_arena.specs.declared.content.CellNo.{CellNo}
use Rattle.in_arena.specs.declared.content.End.{End}
use Rattle.in_cells.specs.Copying.{LeadsInto}
use Rattle.in_tests.proofs.copies.expect_closed.Given as goal

abbrev pub invariant-loop-number : goal.invariant-loop-number
invariant-loop-number g l = (k i : ℕ) (c : CellNo) (e : End) → k < l.number → slice_get l.agents k ≡ Some c → end_at (state_at l.from c.0) i ≡ Some e → LeadsInto l.agents l.many e
