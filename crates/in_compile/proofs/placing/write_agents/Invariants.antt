use Rattle.in_compile.specs.PlacingSteps.{AreWrittenBelow}
use Rattle.in_compile.proofs.placing.write_agents.Given as goal

abbrev pub invariant-loop-agent : goal.invariant-loop-agent
invariant-loop-agent l = AreWrittenBelow l.member l.numbers l.fn.bag l.agent l.bag
