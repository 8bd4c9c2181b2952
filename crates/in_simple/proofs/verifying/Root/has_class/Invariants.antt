use Rattle.in_simple.specs.Checking.{IsOpen}
use Rattle.in_simple.proofs.verifying.Root.has_class.Given as goal

abbrev pub invariant-loop-wire : goal.invariant-loop-wire
invariant-loop-wire l = IsOpen l.self.net.now l.self.node l.class l.built.ends l.wire
