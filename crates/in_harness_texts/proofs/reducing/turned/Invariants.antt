use Rattle.std.proofs.Common.{◌≡◌}
use Rattle.in_harness_texts.proofs.reducing.turned.Given as goal

abbrev pub invariant-loop-steps : goal.invariant-loop-steps
invariant-loop-steps l = l.plain.program ≡ l.checked.program
