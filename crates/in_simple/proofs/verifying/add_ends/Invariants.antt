use Rattle.in_simple.proofs.VerifyEnds.{IsAddedTo}
use Rattle.in_simple.proofs.verifying.add_ends.Given as goal

abbrev pub invariant-loop-wire : goal.invariant-loop-wire
invariant-loop-wire l = IsAddedTo l.more l.initial.ends l.ends l.wire
