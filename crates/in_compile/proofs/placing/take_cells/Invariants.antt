use Rattle.std.proofs.Common.{◌≡◌, vec_capacity}
use Rattle.in_compile.specs.PlacingSteps.{AreTakenBelow}
use Rattle.in_compile.proofs.placing.take_cells.Given as goal

abbrev pub invariant-loop-agent : goal.invariant-loop-agent
invariant-loop-agent l = record {
  taken : AreTakenBelow l.member l.fn.stock l.fn.bag l.agent l.stock l.numbers.items l.bag;
  room : vec_capacity l.numbers ≡ vec_capacity l.fn.numbers;
}
