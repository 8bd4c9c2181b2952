use Rattle.in_simple.specs.Checking.{IsGraftedTo}
use Rattle.in_simple.proofs.verifying.graft_ends.Given as goal

abbrev pub invariant-loop-wire : goal.invariant-loop-wire
invariant-loop-wire l = IsGraftedTo l.«open» l.node l.initial.ends l.ends l.wire
