use Rattle.in_certificates.proofs.Read.{are_read}
use Rattle.in_certificates.proofs.given.steps_of.Given as goal

abbrev pub invariant-loop-index : goal.invariant-loop-index
invariant-loop-index l = are_read l.parts l.given l.index l.steps
