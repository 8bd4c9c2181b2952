use Rattle.in_compile.specs.Putting.{ArePutBelow}
use Rattle.in_compile.proofs.putting.write_all.Given as goal

abbrev pub invariant-loop-agent : goal.invariant-loop-agent
invariant-loop-agent l = ArePutBelow l.member l.numbers l.fn.arena l.agent l.arena
