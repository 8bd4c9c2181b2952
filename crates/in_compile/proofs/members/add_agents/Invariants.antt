use Rattle.in_compile.specs.Storing.{AreLaidBelow}
use Rattle.in_compile.proofs.members.add_agents.Given as goal

abbrev pub invariant-loop-number : goal.invariant-loop-number
invariant-loop-number l = AreLaidBelow l.symbols l.net l.number l.agents l.joints
