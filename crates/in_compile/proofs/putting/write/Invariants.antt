use Rattle.in_compile.specs.PlacingSteps.{IsBeingWritten}
use Rattle.in_compile.proofs.putting.write.Given as goal

abbrev pub invariant-loop-place : goal.invariant-loop-place
invariant-loop-place l = IsBeingWritten l.member l.numbers l.agent l.place l.cell l.fn.arena l.arena
