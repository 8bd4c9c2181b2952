use Rattle.in_simple.specs.Checking.{AreAll}
use Rattle.in_simple.proofs.sets.NumberSet.is_all.Given as goal

abbrev pub invariant-loop-number : goal.invariant-loop-number
invariant-loop-number l = AreAll l.self l.number
