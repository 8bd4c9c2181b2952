use Rattle.in_simple.specs.Checking.{HasFreeEnds}
use Rattle.in_simple.proofs.verifying.has_free_ends.Given as goal

abbrev pub invariant-loop-wire : goal.invariant-loop-wire
invariant-loop-wire l = HasFreeEnds l.«open» l.built l.wire
