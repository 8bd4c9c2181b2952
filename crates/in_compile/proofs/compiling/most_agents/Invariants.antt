use Rattle.in_compile.specs.Finding.{listed}
use Rattle.in_compile.specs.Templates.{agents_of}
use Rattle.in_compile.proofs.Needs.Most.{IsMostBelow}
use Rattle.in_compile.proofs.compiling.most_agents.Given as goal

abbrev pub invariant-loop-number : goal.invariant-loop-number
invariant-loop-number l = IsMostBelow (listed l.templates) agents_of l.number l.most
