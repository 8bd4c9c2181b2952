use Rattle.in_compile.specs.Finding.{AreFoundBySymbols, listed}
use Rattle.in_compile.proofs.compiling.by_symbols.Given as goal

abbrev pub invariant-loop-number : goal.invariant-loop-number
invariant-loop-number l = AreFoundBySymbols (listed l.templates) l.size l.number l.found
