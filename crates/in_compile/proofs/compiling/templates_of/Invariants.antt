use Rattle.in_compile.specs.Finding.{listed}
use Rattle.in_compile.specs.Templates.{HaveFirst}
use Rattle.in_compile.proofs.compiling.templates_of.Given as goal

abbrev pub invariant-loop-number : goal.invariant-loop-number
invariant-loop-number l = HaveFirst l.checked.program.tables l.checked.program.rules l.number (listed l.templates)
