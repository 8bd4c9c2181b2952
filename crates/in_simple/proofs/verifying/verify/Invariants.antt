use Rattle.in_simple.proofs.VerifyRun.{AreBuilt}
use Rattle.in_simple.proofs.verifying.verify.Given as goal

abbrev pub invariant-loop-step : goal.invariant-loop-step
invariant-loop-step l = AreBuilt l.«open» l.derivation.steps l.step-index l.parts.items
