use Rattle.in_open_nets.proofs.Public.{IsUnitedTo}
use Rattle.in_simple.proofs.sets.NumberSet.unite.Given as goal

abbrev pub invariant-loop-number : goal.invariant-loop-number
invariant-loop-number l = IsUnitedTo l.more l.initial.self l.self l.number
