use Rattle.std.proofs.Common.{◌∷◌}
use Rattle.in_rounds.specs.Gathers.{bags_of}
use Rattle.in_rounds.specs.Holding.{HaveAllLeased}
use Rattle.in_harness.proofs.gathers.add_answers.Given as goal

abbrev pub invariant-loop-at : goal.invariant-loop-at
invariant-loop-at l = HaveAllLeased (l.stock.bag ∷ bags_of l.gather.slots) l.arena
